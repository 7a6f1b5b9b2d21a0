-- No instruction's answer is a refusal.
use mathlib.Core.Path.{◌≡◌, refl, ap, ◌∙◌}
use mathlib.Core.Bool.{false}
use Prim.Native.Nat.{ℕ}
use Rattle.entry.specs.declared.answer.Answered.{Answered}
use Rattle.entry.specs.Answer.{is_refusal}
use Rattle.rules.specs.declared.Dims.{Dims}
use Rattle.rules.specs.declared.Caches.{Caches}
use Rattle.rules.specs.State.{Outcome, outcome, TSTATUS}
use Rattle.rules.specs.Load.{load}
use Rattle.rules.specs.Store.{store}
use Rattle.rules.specs.Transact.{transact}
use Rattle.rules.specs.Ends.{commit, abort, validate, interrupt}
use Rattle.rules.proofs.Refusing.{Accepts, is_refused, either_accepts, load_accepts, store_accepts, transact_accepts}

-- a was told, and t left, by an instruction from s
module _ (a : Answered) (t : Caches) (d : Dims) (p : ℕ) (s : Caches) where
  told_by : (r : Outcome) → outcome a t ≡ r → Accepts r → is_refusal a.answer ≡ false
  told_by r e h = ap is_refused e ∙ h

  pub load_told : (w : ℕ) → outcome a t ≡ load d p w s → is_refusal a.answer ≡ false
  load_told w e = told_by _ e (load_accepts d p w s)

  pub store_told : (w v : ℕ) → outcome a t ≡ store d p w v s → is_refusal a.answer ≡ false
  store_told w v e = told_by _ e (store_accepts d p w v s)

  pub transact_told : (op w v : ℕ) → outcome a t ≡ transact d op p w v s → is_refusal a.answer ≡ false
  transact_told op w v e = told_by _ e (transact_accepts d p w v op s)

  pub commit_told : outcome a t ≡ commit d p s → is_refusal a.answer ≡ false
  unfolding commit
  commit_told e = told_by _ e (either_accepts (TSTATUS s p) _ _ refl refl)

  pub abort_told : outcome a t ≡ abort d p s → is_refusal a.answer ≡ false
  unfolding abort
  abort_told e = told_by _ e refl

  pub validate_told : outcome a t ≡ validate p s → is_refusal a.answer ≡ false
  unfolding validate
  validate_told e = told_by _ e (either_accepts (TSTATUS s p) _ _ refl refl)

  pub interrupt_told : outcome a t ≡ interrupt d p s → is_refusal a.answer ≡ false
  unfolding interrupt
  interrupt_told e = told_by _ e refl
