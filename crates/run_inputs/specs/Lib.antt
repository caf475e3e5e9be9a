-- What a run over lent bytes leaves in the buffer; and the next bytes of an input, as the code takes them.
pub mod Printed
pub mod Inputs
