-- What a step that is not refused says of its fields.
use mathlib.Core.Path.{◌≡◌, refl, ◌∙◌, sym}
use mathlib.Core.Bool.{Bool, true, false, not, true≢false}
use Prim.Native.Nat.{ℕ, ◌<◌, ◌≤◌}
use native.Mathlib.Omega.{arith}
use lib.Dec.{eqb, ltb}
use borrow.Author.Tests.{ltb-true, eqb-true}
use Rattle.laws.specs.Choice.{pick, either}
use Rattle.entry.specs.declared.step.Step.{Step}
use Rattle.entry.specs.Numbers.{LOAD, STORE, LT, LTX, ST, COMMIT, ABORT, VALIDATE, INTERRUPT}
use Rattle.entry.specs.Refusals.{accepted, no_such_processor, no_such_word}
use Rattle.entry.specs.Step.{uses_word}
use Rattle.rules.specs.declared.Dims.{Dims}
use Rattle.rules.specs.declared.Caches.{Caches}
use Rattle.rules.specs.State.{Outcome}
use Rattle.rules.specs.Step.{operands_refusal, allowed, refused, narrowed, take_step}
use Rattle.rules.proofs.Refusing.{refusal_of}

pub record Taken (d : Dims) (x : Step) : Type 0 where
  pub number : x.op ≤ INTERRUPT
  pub processor : x.core < d.processors
  pub word : uses_word x.op ≡ true → x.word < d.words
  pub operands : operands_refusal d x ≡ accepted

-- 7 and 8
module _ (d : Dims) (x : Step) where
  record Fits : Type 0 where
    pub processor : x.core < d.processors
    pub word : uses_word x.op ≡ true → x.word < d.words

  fits : operands_refusal d x ≡ accepted → Fits
  unfolding operands_refusal
  fits e = by (ltb x.core d.processors) (uses_word x.op) (ltb x.word d.words) refl refl refl e
    where
      by : (a b c : Bool) → ltb x.core d.processors ≡ a → uses_word x.op ≡ b → ltb x.word d.words ≡ c
          → pick a (pick (either (not b) c) accepted no_such_word) no_such_processor ≡ accepted → Fits
      by false b c ha hb hc e = absurd (omega (arith, e))
      by true true false ha hb hc e = absurd (omega (arith, e))
      by true true true ha hb hc e = record { processor = ltb-true _ _ ha; word = λ u. ltb-true _ _ hc }
      by true false c ha hb hc e = record { processor = ltb-true _ _ ha; word = λ u. absurd (true≢false (sym u ∙ hb)) }

  allowed_fits : (s : Caches) (r : Outcome) → refusal_of (allowed d x s r) ≡ accepted → operands_refusal d x ≡ accepted
  allowed_fits s r e = by (eqb (operands_refusal d x) accepted) refl e
    where
      by : (b : Bool) → eqb (operands_refusal d x) accepted ≡ b → refusal_of (pick b r (refused (operands_refusal d x) s)) ≡ accepted
          → operands_refusal d x ≡ accepted
      by true h e = eqb-true (operands_refusal d x) accepted h
      by false h e = e

-- an arm of the match: the step is this one, or one of the rest
module _ (d : Dims) (x : Step) (s : Caches) where
  arm : (k : ℕ) → k ≤ INTERRUPT → (r rest : Outcome) → (refusal_of rest ≡ accepted → Taken d x)
      → refusal_of (pick (eqb x.op k) (allowed d x s r) rest) ≡ accepted → Taken d x
  arm k l r rest next e = by (eqb x.op k) refl e
    where
      by : (b : Bool) → eqb x.op k ≡ b → refusal_of (pick b (allowed d x s r) rest) ≡ accepted → Taken d x
      by true h e =
          let o = allowed_fits d x s r e in
          let f = fits d x o in
          record { number = omega (arith, eqb-true x.op k h); processor = f.processor; word = f.word; operands = o }
      by false h e = next e

  pub taken : refusal_of (take_step d x s) ≡ accepted → Taken d x
  unfolding take_step
  taken =
      arm LOAD (omega arith) _ _
      (arm STORE (omega arith) _ _
      (arm LT (omega arith) _ _
      (arm LTX (omega arith) _ _
      (arm ST (omega arith) _ _
      (arm COMMIT (omega arith) _ _
      (arm ABORT (omega arith) _ _ (arm VALIDATE (omega arith) _ _ (arm INTERRUPT (omega arith) _ _ (λ e. absurd (omega (arith, e)))))))))))

-- where 8 passes on a machine, a word is not cut
pub narrowed_same : {d : Dims} {x : Step} → d.words ≤ 256 → Taken d x → uses_word x.op ≡ true → narrowed x.word ≡ x.word
narrowed_same {d} {x} l t u = let h = t.word u in omega arith
