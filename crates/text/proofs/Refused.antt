-- A record's result is known by its refusal's number. Assumes nothing.
use mathlib.Core.Path.{◌≡◌, refl, sym, ◌∙◌, ap}
use Prim.Native.Nat.{ℕ}
use Rattle.std.specs.Prelude.{Result, Ok, Err}
use Rattle.entry.specs.declared.refusals.Refusal.{Refusal}
use Rattle.entry.proofs.Refused.{refusal_from, refusal_back}
use Rattle.text.specs.declared.records.Parsed.{Parsed}
use Rattle.text.specs.Records.{numbered}

abbrev pub unnumbered : Result Parsed ℕ → Result Parsed Refusal
unnumbered (Ok p) = Ok p
unnumbered (Err n) = Err (refusal_from n)

pub numbered_back : (r : Result Parsed Refusal) → unnumbered (numbered r) ≡ r
numbered_back (Ok p) = refl
numbered_back (Err r) = ap Err (refusal_back r).0

pub numbered_one : (r r' : Result Parsed Refusal) → numbered r ≡ numbered r' → r ≡ r'
numbered_one r r' e = sym (numbered_back r) ∙ ap unnumbered e ∙ numbered_back r'
