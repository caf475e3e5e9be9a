-- `route` refuses a table as the table's own answer does.
use mathlib.Core.Path.{◌≡◌, sym, ◌∙◌}
use borrow.Author.Rules.{rules}
use Rattle.std.specs.Prelude.{Err}
use Rattle.check_tables.proofs.Asking.{route_refused}
use Rattle.find_routes.proofs.routes.route.Goals as goal

pub returns-in_err-table_answer : goal.returns-in_err-table_answer
returns-in_err-table_answer c =
    let a = c.args in
    let e : c.from_residual.result ≡ Err c.in_err-table_answer.field-0.0 = search rules in
    e ∙ route_refused a.t a.n a.a (sym c.in_err-table_answer.ensures)
