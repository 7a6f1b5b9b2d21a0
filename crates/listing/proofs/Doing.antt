-- One line done by the code is the line of the definition, written where it surely fits; and what that is in the loop that fills a buffer.
use mathlib.Core.Path.{◌≡◌, refl, sym, ◌∙◌, ap}
use mathlib.Core.Bool.{Bool, true, false, not, true≢false}
use mathlib.Core.List.{List}
use Prim.Native.Nat.{ℕ, ◌+◌, ◌≤◌, ◌<◌}
use native.Mathlib.Omega.{arith}
use borrow.Author.Tests.{eq-eqb, ne_eqb}
use lib.Dec.{ltb, leb}
use lib.ListN.{length}
use lib.Seq.{sets}
use Rattle.laws.specs.Choice.{both}
use Rattle.entry.specs.declared.answer.Answered.{Answered}
use Rattle.entry.specs.Answer.{refused_by}
use Rattle.rules.specs.declared.Dims.{Dims}
use Rattle.rules.specs.declared.Caches.{Caches}
use Rattle.rules.specs.State.{outcome}
use Rattle.text.specs.Writing.{Filled, filled, put_of}
use Rattle.text.proofs.Puts.{put_fit}
use Rattle.listing.specs.declared.places.Place.{Place}
use Rattle.listing.specs.Phases.{HEADER, REFUSAL, END, NOTHING}
use Rattle.listing.specs.Place.{with_phase, more64, first_phase}
use Rattle.listing.specs.Lines.{most_line, answer_line, end_line, header_line}
use Rattle.listing.specs.Records.{Looked, look_at, answer_of, place_after}
use Rattle.listing.specs.Pieces.{Filling, filling, run_to, stops, piece_turn, piece_of}
use Rattle.listing.specs.Listing.{Going, going, do_record, do_other, do_line, wrote_line, goes_on, line_of, next_at, lines_left, fill_of}
use Rattle.listing.proofs.Fitting.{answer_fair, end_fair}
use Rattle.listing.proofs.Turning.{run_stop, run_turn}
use Rattle.listing.proofs.Falling.{falls}

-- what a put that fits leaves
put_did : (l o o' : List ℕ) (used k : ℕ) → used + length l ≤ length o → filled k o' ≡ put_of l (filled used o) →
    (k ≡ used + length l) × (o' ≡ sets o used l)
put_did l o o' used k h e =
    let w = e ∙ sym (put_fit l o (sets o used l) used h refl) in
    (ap (λ (x : Filled). x.place) w, ap (λ (x : Filled). x.held) w)

module _ (s : List ℕ) (x : Place) (used : ℕ) (o : List ℕ) (room : used + most_line ≤ length o) (k : ℕ) (o' : List ℕ) (y : Place) where
  pub record_did : (d : Dims) (c c' : Caches) (l : Looked) (a : Answered) (n : ℕ) →
      l ≡ look_at s x → outcome a c' ≡ answer_of d l c → n ≡ more64 x.number 1 →
      filled k o' ≡ put_of (answer_line n a) (filled used o) → y ≡ place_after s x l a →
      filling (going y c') k o' ≡ wrote_line (do_record s d x c) used o
  unfolding do_record
  record_did d c c' l a n el ea en ep ey =
      let q = put_did (answer_line n a) o o' used k (omega (arith, (answer_fair n a).1)) ep in
      rw (← el, ← ea, ← en, ey, q.0, q.1)

  pub header_did : (f : ℕ) → x.phase ≡ HEADER → filled k o' ≡ put_of header_line (filled used o) → f ≡ first_phase s x → y ≡ with_phase x f →
      (c : Caches) → filling (going y c) k o' ≡ wrote_line (do_other s x c) used o
  unfolding do_other
  header_did f h ep ef ey c =
      let q = put_did header_line o o' used k (omega arith) ep in
      rw (eq-eqb x.phase HEADER h, ← ef, ey, q.0, q.1)

  pub refusal_did : (a : Answered) → (x.phase ≡ HEADER → ⊥) → x.phase ≡ REFUSAL → a ≡ refused_by x.refusal →
      filled k o' ≡ put_of (answer_line 0 a) (filled used o) → y ≡ with_phase x END →
      (c : Caches) → filling (going y c) k o' ≡ wrote_line (do_other s x c) used o
  unfolding do_other
  refusal_did a n h ea ep ey c =
      let q = put_did (answer_line 0 a) o o' used k (omega (arith, (answer_fair 0 a).1)) ep in
      rw (ne_eqb x.phase HEADER n, eq-eqb x.phase REFUSAL h, ← ea, ey, q.0, q.1)

  pub end_did : (m t : ℕ) → (x.phase ≡ HEADER → ⊥) → (x.phase ≡ REFUSAL → ⊥) → m ≡ x.commits → t ≡ x.cycles →
      filled k o' ≡ put_of (end_line m t) (filled used o) → y ≡ with_phase x NOTHING →
      (c : Caches) → filling (going y c) k o' ≡ wrote_line (do_other s x c) used o
  unfolding do_other
  end_did m t n h em et ep ey c =
      let p = rw (em, et) at ep in
      let q = put_did (end_line x.commits x.cycles) o o' used k (omega (arith, (end_fair x.commits x.cycles).1)) p in
      rw (ne_eqb x.phase HEADER n, ne_eqb x.phase REFUSAL h, ey, q.0, q.1)

module _ (s : List ℕ) (d : Dims) where
  abbrev pub stop : Filling Going → Bool
  stop = stops (goes_on s d) (line_of s d) (next_at s d) most_line

  abbrev pub go : Filling Going → Filling Going
  go = piece_turn (goes_on s d) (line_of s d) (next_at s d) most_line

  abbrev pub fill_from : Filling Going → Filling Going
  fill_from c = run_to stop go (lines_left s d c.state) c

  stop_falls : (c : Filling Going) → stop c ≡ false → lines_left s d (go c).state < lines_left s d c.state
  stop_falls c e = by (goes_on s d c.state) refl e
    where
      by : (b : Bool) → goes_on s d c.state ≡ b → not (both b (leb (c.used + most_line) (length c.buffer))) ≡ false →
          lines_left s d (go c).state < lines_left s d c.state
      by true h z = falls s d c.state h
      by false h z = absurd (true≢false z)

  pub fill_starts : (g : Going) (o : List ℕ) → fill_from (filling g 0 o) ≡ fill_of s d g o
  unfolding fill_of piece_of
  fill_starts g o = refl

  -- the loop's two ends, and its turn
  pub ended_lines : (x : Place) (c : Caches) (used : ℕ) (o : List ℕ) (w : Filling Going) → fill_from (filling (going x c) used o) ≡ w →
      ltb x.phase NOTHING ≡ false → filling (going x c) used o ≡ w
  ended_lines x c used o w e h =
      sym (run_stop stop go (lines_left s d (going x c)) (filling (going x c) used o) (rw h)) ∙ e

  pub ended_room : (x : Place) (c : Caches) (used : ℕ) (o : List ℕ) (w : Filling Going) → fill_from (filling (going x c) used o) ≡ w →
      leb (used + most_line) (length o) ≡ false → filling (going x c) used o ≡ w
  ended_room x c used o w e h =
      sym (run_stop stop go (lines_left s d (going x c)) (filling (going x c) used o) (by (ltb x.phase NOTHING))) ∙ e
    where
      by : (b : Bool) → not (both b (leb (used + most_line) (length o))) ≡ true
      by true = rw h
      by false = refl

  -- the buffer that was lent holds what the page held
  pub ended_in : (x : Place) (c : Caches) (used : ℕ) (o o' : List ℕ) (w : Filling Going) → o' ≡ o → filling (going x c) used o ≡ w →
      filling (going x c) used o' ≡ w
  ended_in x c used o o' w h e = rw h e

  pub went_on : (x : Place) (c : Caches) (used : ℕ) (o : List ℕ) (w : Filling Going) → fill_from (filling (going x c) used o) ≡ w →
      ltb x.phase NOTHING ≡ true → leb (used + most_line) (length o) ≡ true → (v : Filling Going) → v ≡ wrote_line (do_line s d x c) used o → fill_from v ≡ w
  went_on x c used o w e h r v ev =
      rw ev
      (sym
      (run_turn stop go (λ (z : Filling Going). lines_left s d z.state) stop_falls (filling (going x c) used o)
      (rw (h, r))) ∙
      e)

  pub less : (x : Place) (c : Caches) (used : ℕ) (o : List ℕ) → ltb x.phase NOTHING ≡ true → (y : Place) (c' : Caches) (k : ℕ) (o' : List ℕ) →
      filling (going y c') k o' ≡ wrote_line (do_line s d x c) used o → lines_left s d (going y c') < lines_left s d (going x c)
  less x c used o h y c' k o' e =
      let g : lines_left s d (going y c') ≡ lines_left s d (next_at s d (going x c)) = ap (λ (z : Filling Going). lines_left s d z.state) e in
      omega (arith, g, falls s d (going x c) h)
