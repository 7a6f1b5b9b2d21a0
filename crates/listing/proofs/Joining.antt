-- The pieces of a text joined are the whole, whatever a line is. Assumes nothing.
use mathlib.Core.Path.{◌≡◌, refl, sym, ◌∙◌, ap}
use mathlib.Core.Bool.{Bool, true, false, not}
use mathlib.Core.List.{List, [], ◌++◌, append_assoc, append-nil}
use Prim.Native.Nat.{ℕ, zero, suc, ◌+◌, ◌≤◌, ◌<◌}
use native.Mathlib.Omega.{arith}
use native.Mathlib.Nat.{zero-add}
use borrow.Author.Tests.{le-leb, leb-true}
use lib.Dec.{leb}
use lib.ListN.{length, length-append, take, drop}
use lib.Seq.{sets, length-sets, sets-eq, take-append_seam, drop-append_seam}
use Rattle.laws.specs.Choice.{pick, both}
use Rattle.text.proofs.Puts.{sets_append}
use Rattle.listing.specs.Pieces as pieces
use Rattle.listing.specs.Pieces.{run_to, Filling, filling}

-- S is what stands between two lines, more whether another line comes, line that line and next what stands after it.
module _ {S : Type 0} (more : S → Bool) (line : S → List ℕ) (next : S → S) (most : ℕ) where
  abbrev text_from : ℕ → S → List ℕ
  text_from = pieces.text_from more line next

  abbrev stops : Filling S → Bool
  stops = pieces.stops more line next most

  abbrev piece_turn : Filling S → Filling S
  piece_turn = pieces.piece_turn more line next most

  abbrev piece_of : ℕ → S → List ℕ → Filling S
  piece_of = pieces.piece_of more line next most

  -- μ falls with each line, so that there is an end
  module _ (μ : S → ℕ) (falls : (x : S) → more x ≡ true → μ (next x) < μ x) where
    -- the whole text from x on
    unfoldable pub whole_text : S → List ℕ
    whole_text x = text_from (μ x) x

    -- any number of lines that is enough gives the same
    pub text_fuel : (f g : ℕ) (x : S) → μ x ≤ f → μ x ≤ g → text_from f x ≡ text_from g x
    unfolding pieces.text_from
    text_fuel zero zero x h k = refl
    text_fuel zero (suc g) x h k = by (more x) refl
      where
        by : (b : Bool) → more x ≡ b → [] ≡ pick b (line x ++ text_from g (next x)) []
        by true e = absurd (omega (arith, falls x e))
        by false e = refl
    text_fuel (suc f) zero x h k = by (more x) refl
      where
        by : (b : Bool) → more x ≡ b → pick b (line x ++ text_from f (next x)) [] ≡ []
        by true e = absurd (omega (arith, falls x e))
        by false e = refl
    text_fuel (suc f) (suc g) x h k =
        by (more x) refl (λ e. text_fuel f g (next x) (omega (arith, falls x e)) (omega (arith, falls x e)))
      where
        by : (b : Bool) → more x ≡ b → (more x ≡ true → text_from f (next x) ≡ text_from g (next x)) →
            pick b (line x ++ text_from f (next x)) [] ≡ pick b (line x ++ text_from g (next x)) []
        by true e ih = ap (λ (t : List ℕ). line x ++ t) (ih e)
        by false e ih = refl

    pub whole_turn : (x : S) → more x ≡ true → whole_text x ≡ line x ++ whole_text (next x)
    unfolding whole_text pieces.text_from
    whole_turn x e = go (μ x) refl
      where
        go : (n : ℕ) → μ x ≡ n → text_from n x ≡ line x ++ text_from (μ (next x)) (next x)
        go zero z = absurd (omega (arith, falls x e))
        go (suc n) z =
            rw e
            (ap (λ (t : List ℕ). line x ++ t) (text_fuel n (μ (next x)) (next x) (omega (arith, falls x e)) (omega arith)))

    pub whole_end : (x : S) → more x ≡ false → whole_text x ≡ []
    unfolding whole_text pieces.text_from
    whole_end x e = go (μ x)
      where
        go : (n : ℕ) → text_from n x ≡ []
        go zero = refl
        go (suc n) = rw e

    module _ (long : (x : S) → length (line x) ≤ most) (o : List ℕ) where
      -- the buffer holds t and is else as it was
      abbrev pub holding : S → List ℕ → Filling S
      holding x t = filling x (length t) (sets o 0 t)

      pub turned : (x : S) (t : List ℕ) → piece_turn (holding x t) ≡ holding (next x) (t ++ line x)
      turned x t =
          rw (length-append t (line x))
          (ap (λ (r : List ℕ). filling (next x) (length t + length (line x)) r)
          (sym (sets_append t (line x) o 0 ∙ ap (λ (k : ℕ). sets (sets o 0 t) k (line x)) (zero-add (length t)))))

      -- what a piece adds to the text t that the buffer holds, and that with the whole text from where it stopped it is the whole from x
      pub record Piece (x : S) (t : List ℕ) (c : Filling S) : Type 0 where
        pub text : List ℕ
        pub holds : c ≡ holding c.state (t ++ text)
        pub fits : length (t ++ text) ≤ length o
        pub joins : text ++ whole_text c.state ≡ whole_text x

      pub piece_from : (f : ℕ) (x : S) (t : List ℕ) → length t ≤ length o → Piece x t (run_to stops piece_turn f (holding x t))
      unfolding run_to
      piece_from zero x t h = record { text = []; holds = rw (append-nil t); fits = rw (append-nil t) h; joins = refl }
      piece_from (suc f) x t h =
          by (more x) (leb (length t + most) (length (sets o 0 t))) refl refl (λ k. piece_from f (next x) (t ++ line x) k)
        where
          stay : Piece x t (holding x t)
          stay = record { text = []; holds = rw (append-nil t); fits = rw (append-nil t) h; joins = refl }

          by : (a b : Bool) → more x ≡ a → leb (length t + most) (length (sets o 0 t)) ≡ b →
              (length (t ++ line x) ≤ length o → Piece (next x) (t ++ line x) (run_to stops piece_turn f (holding (next x) (t ++ line x)))) →
              Piece x t (pick (not (both a b)) (holding x t) (run_to stops piece_turn f (piece_turn (holding x t))))
          by false b e g ih = stay
          by true false e g ih = stay
          by true true e g ih = rw (turned x t) (on (ih room))
            where
              room : length (t ++ line x) ≤ length o
              room = omega (arith, length-append t (line x), long x, leb-true (length t + most) (length (sets o 0 t)) g, length-sets o 0 t)

              on : Piece (next x) (t ++ line x) (run_to stops piece_turn f (holding (next x) (t ++ line x))) →
                  Piece x t (run_to stops piece_turn f (holding (next x) (t ++ line x)))
              on p =
                  record {
                    text = line x ++ p.text;
                    holds = rw (← append_assoc t (line x) p.text) p.holds;
                    fits = rw (← append_assoc t (line x) p.text) p.fits;
                    joins =
                        append_assoc (line x) p.text _ ∙ ap (λ (r : List ℕ). line x ++ r) p.joins ∙ sym (whole_turn x e);
                  }

      -- one piece: what it wrote, with the whole text from where it stopped, is the whole text
      pub piece_joins : (f : ℕ) (x : S) →
          take (piece_of f x o).used (piece_of f x o).buffer ++ whole_text (piece_of f x o).state ≡ whole_text x
      unfolding pieces.piece_of
      piece_joins f x = at (piece_from f x [] (omega arith))
        where
          at : {c : Filling S} → Piece x [] c → take c.used c.buffer ++ whole_text c.state ≡ whole_text x
          at {c} p =
              rw (p.holds, sets-eq p.text o 0 (omega (arith, p.fits)), take-append_seam p.text (drop (0 + length p.text) o)) p.joins

      -- what stands past it is kept
      pub piece_keeps : (f : ℕ) (x : S) → drop (piece_of f x o).used (piece_of f x o).buffer ≡ drop (piece_of f x o).used o
      unfolding pieces.piece_of
      piece_keeps f x = at (piece_from f x [] (omega arith))
        where
          at : {c : Filling S} → Piece x [] c → drop c.used c.buffer ≡ drop c.used o
          at {c} p =
              rw (p.holds, sets-eq p.text o 0 (omega (arith, p.fits)), drop-append_seam p.text (drop (0 + length p.text) o), zero-add)

    -- a piece never goes back, and one that has a line to write and room for it goes on
    pub never_back : (f : ℕ) (c : Filling S) → μ (run_to stops piece_turn f c).state ≤ μ c.state
    unfolding run_to
    never_back zero c = omega arith
    never_back (suc f) c = by (more c.state) (leb (c.used + most) (length c.buffer)) refl (never_back f (piece_turn c))
      where
        by : (a b : Bool) → more c.state ≡ a → μ (run_to stops piece_turn f (piece_turn c)).state ≤ μ (next c.state) →
            μ (pick (not (both a b)) c (run_to stops piece_turn f (piece_turn c))).state ≤ μ c.state
        by false b e h = omega arith
        by true false e h = omega arith
        by true true e h = omega (arith, h, falls c.state e)

    pub goes_on_lem : (x : S) (o : List ℕ) → more x ≡ true → most ≤ length o → μ (piece_of (μ x) x o).state < μ x
    unfolding pieces.piece_of run_to
    goes_on_lem x o e h = go (μ x) refl
      where
        go : (n : ℕ) → μ x ≡ n → μ (run_to stops piece_turn n (filling x 0 o)).state < μ x
        go zero z = absurd (omega (arith, falls x e))
        go (suc n) z =
            rw (e, le-leb (0 + most) (length o) (omega arith)) (omega (arith, falls x e, never_back n (piece_turn (filling x 0 o))))

    -- nothing is written where no line comes
    pub piece_none : (f : ℕ) (x : S) (o : List ℕ) → more x ≡ false → piece_of f x o ≡ filling x 0 o
    unfolding pieces.piece_of run_to
    piece_none zero x o e = refl
    piece_none (suc f) x o e = rw e

    -- what is written is never taken back, so that a piece that has a line to write and room for it writes
    pub never_less : (f : ℕ) (c : Filling S) → c.used ≤ (run_to stops piece_turn f c).used
    unfolding run_to
    never_less zero c = omega arith
    never_less (suc f) c = by (stops c) (never_less f (piece_turn c))
      where
        by : (b : Bool) → (piece_turn c).used ≤ (run_to stops piece_turn f (piece_turn c)).used →
            c.used ≤ (pick b c (run_to stops piece_turn f (piece_turn c))).used
        by true h = omega arith
        by false h = omega (arith, h)

    pub writes : ((x : S) → 0 < length (line x)) → (x : S) (o : List ℕ) → more x ≡ true → most ≤ length o → 0 < (piece_of (μ x) x o).used
    unfolding pieces.piece_of run_to
    writes some x o e h = go (μ x) refl
      where
        go : (n : ℕ) → μ x ≡ n → 0 < (run_to stops piece_turn n (filling x 0 o)).used
        go zero z = absurd (omega (arith, falls x e))
        go (suc n) z =
            rw (e, le-leb (0 + most) (length o) (omega arith)) (omega (arith, some x, never_less n (piece_turn (filling x 0 o))))
