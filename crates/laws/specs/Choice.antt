-- The one choice of every definition, and tests put together. Assumes nothing.
use Rattle.std.specs.Prelude.{◌≡◌, refl, Bool, true, false}
use Rattle.std.proofs.Common.{sym, true≢false}

-- By a test: a where it is true, b where it is false. Where b is costly to compute, bind it by a `let` first.
abbrev pub pick : {A : Type 0} → Bool → A → A → A
pick true a b = a
pick false a b = b

abbrev pub both : Bool → Bool → Bool
both true b = b
both false b = false

abbrev pub either : Bool → Bool → Bool
either true b = true
either false b = b

-- What two tests put together say of each.
pub both_true : (x y : Bool) → x ≡ true → y ≡ true → both x y ≡ true
both_true true y h k = k
both_true false y h k = h

pub both_left : (x y : Bool) → both x y ≡ true → x ≡ true
both_left true y h = refl
both_left false y h = h

pub both_right : (x y : Bool) → both x y ≡ true → y ≡ true
both_right true y h = h
both_right false y h = absurd (true≢false (sym h))

pub either_left : (x y : Bool) → x ≡ true → either x y ≡ true
either_left true y h = refl
either_left false y h = absurd (true≢false (sym h))

pub either_right : (x y : Bool) → y ≡ true → either x y ≡ true
either_right true y h = refl
either_right false y h = h

pub both_not : (x y : Bool) → y ≡ false → both x y ≡ false
both_not true y h = h
both_not false y h = refl
