-- No second answer satisfies the contract of `zeros`. What `read_full` answers is the reader's to say. Assumes nothing.
use Rattle.std.proofs.Common.{ℕ, sym, ◌∙◌, arith}
use Rattle.std.proofs.lemmas.Grind.{same_number_lists}
use mir.Val.{Fits}
use mir.Syntax.{w64}
use Rattle.laws.specs.OneAnswer.{OneAnswer}
use Rattle.streams.proofs.reading.zeros.Reads as zeros-reads

pub zeros_unique : (n : ℕ) (fits : Fits w64 n) → OneAnswer (zeros-reads.Post n fits) (λ κs r s. r)
zeros_unique n fits κs a r r' s s' p q =
    same_number_lists r r' (sym p.0 ∙ q.0) (λ k h. p.1 k 0 h ∙ sym (q.1 k 0 (omega (arith, p.0, q.0, h))))
