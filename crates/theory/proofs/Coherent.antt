-- Coherence is kept from any coherent view, in the middle of transactions too, where no log is known.
use mathlib.Core.Path.{refl, sym, ◌∙◌}
use mathlib.Core.Bool.{true≢false}
use mathlib.Core.List.{List}
use Prim.Native.Nat.{ℕ}
use Rattle.theory.specs.View.{own_value, View}
use Rattle.theory.proofs.OneWord.{stored_tentative, stored, released}
use Rattle.theory.specs.Log.{put}
use Rattle.theory.proofs.Logs.{put_here, put_else}
use Rattle.theory.specs.Event.{Event}
use Rattle.theory.proofs.Moves.{still, Shown, loads, stores, writes, treads, twrites, releases, commits, drops, Run, done, quietly, showing}
use Rattle.theory.proofs.Agree.{Agree, agree_at, agree_silent, agree_commit, agree_flags}
use Rattle.theory.proofs.Settled.{Coherent, Within, IsCoarse, coherent→agree, agree→coherent}
use Rattle.theory.specs.Protocol.{Step}
use Rattle.theory.proofs.Refine.{step_run}

-- the settled values that an event leaves
pub record Agrees' (S : View) : Type 0 where
  pub vals : ℕ → ℕ
  pub agree : Agree S vals

agree_shown : {S S' : View} {M : ℕ → ℕ} {e : Event} → Agree S M → Shown S S' e → Agrees' S'
agree_shown {M = M} A (loads p w s h) = record { vals = M; agree = agree_silent A (still s) }
agree_shown {M = M} A (stores p w {v = v} at was u here) = record {
  vals = put M w v;
  agree =
      agree_at p w A at
      (rw (put_here M w v) (stored (A.words w) p (λ q n. (A.words w).only p q (rw was u) n) here at.proc_else (λ h. absurd (true≢false h))))
      (λ u n. put_else M w v u n) (λ h. absurd (true≢false (cc)));
}
agree_shown {M = M} A (writes p w {v = v} at was al here e) = record {
  vals = put M w v;
  agree =
      agree_at p w A at (rw (put_here M w v) (stored (A.words w) p al here at.proc_else e)) (λ u n. put_else M w v u n)
      (λ h. absurd (true≢false (cc)));
}
agree_shown {M = M} A (treads p w s was) = record { vals = M; agree = agree_silent A (still s) }
agree_shown {M = M} A (twrites p w at was u here em) = record {
  vals = M;
  agree =
      agree_at p w A at (rw em (stored_tentative (A.words w) p was u here at.proc_else)) (λ u n. refl) (λ h. A.live w p (rw was));
}
agree_shown {M = M} A (releases p w at was here em) = record {
  vals = M;
  agree =
      agree_at p w A at (rw em (released (A.words w) p was here at.proc_else)) (λ u n. refl) (λ h. A.live w p (rw was));
}
agree_shown {S = S} {M = M} A (commits p st c) = record { vals = λ w. own_value (S.copy w p) (M w); agree = agree_commit p A c }
agree_shown {M = M} A (drops p none_tentative c) =
    record { vals = M; agree = agree_flags p A c (λ w h. absurd (true≢false (sym h ∙ none_tentative w))) }

agree_run : {S S' : View} {M : ℕ → ℕ} {es : List Event} → Agree S M → Run S es S' → Agrees' S'
agree_run {M = M} A done = record { vals = M; agree = A }
agree_run A (quietly s r) = agree_run (agree_silent A s) r
agree_run A (showing s r) = agree_run (agree_shown A s).agree r

pub coherent_run : {S S' : View} {es : List Event} (n : ℕ) → Coherent n S → ((w p : ℕ) → IsCoarse (S.copy w p)) → Within n S' → Run S es S'
    → Coherent n S'
coherent_run n C co b r = agree→coherent n (agree_run (coherent→agree n C co) r).agree b

pub coherent_step : {S S' : View} {es : List Event} (n : ℕ) → Coherent n S → ((w p : ℕ) → IsCoarse (S.copy w p)) → Within n S' → Step n S S' es
    → Coherent n S'
coherent_step n C co b s = coherent_run n C co b (step_run n (coherent→agree n C co) C.within s)
