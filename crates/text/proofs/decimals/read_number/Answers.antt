use Rattle.std.proofs.Common.{◌∙◌, sym}
use Rattle.text.proofs.FieldBytes.{field_part, field_past}
use Rattle.text.proofs.decimals.read_number.Goals as goal

pub returns-in_err-get : goal.returns-in_err-get
returns-in_err-get c = c.from_residual.ensures ∙ sym (field_past _ _ _ c.in_err-get.ensures.lookup.0)

pub returns : goal.returns
returns c =
    let part = c.in_ok-get.ensures.lookup.0 in
    rw part.2 at c.number_in.ensures ∙ field_part _ _ _ part.0 part.1
