-- The all-zero state, which a refused table gives, is not sound: it has no bus.
use mathlib.Core.Path.{◌≡◌, refl}
use mathlib.Core.Bool.{false}
use Rattle.base.specs.Lists.{all}
use Rattle.chassis.specs.Tables.{counts_in_range, table_grounds, table_passes, zero_table}
use Rattle.network.specs.Nets.{view}
use Rattle.network.specs.Soundness.{counts_fit, keeps_the_rules, sound}
use Rattle.network.specs.Opening.{zero_state}

pub zero_state_is_not_sound : sound zero_state ≡ false
unfolding sound counts_fit keeps_the_rules view zero_state zero_table table_passes table_grounds counts_in_range all
zero_state_is_not_sound = refl
