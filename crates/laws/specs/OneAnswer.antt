-- No second answer satisfies a contract: whatever two answers meet its reading, `Post`, for the same arguments, what `view` takes of the
-- result and of all that is lent, at exit, is one. Assumes nothing.
use Rattle.std.specs.Prelude.{◌≡◌}

abbrev pub OneAnswer : {K : Type 0} {A R S : K → Type 0} {X : Type 0} → ((κs : K) → A κs → R κs → S κs → Type 0) →
    ((κs : K) → R κs → S κs → X) → Type 0
OneAnswer {K} {A} {R} {S} {X} Post view =
    (κs : K) (a : A κs) (r r' : R κs) (s s' : S κs) → Post κs a r s → Post κs a r' s' → view κs r s ≡ view κs r' s'
