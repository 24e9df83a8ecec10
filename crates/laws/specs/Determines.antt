-- What a meaning should do: leave no choice.
use Rattle.std.specs.Prelude.{◌≡◌}

-- Two answers with the meaning P are the same, so that no other function satisfies it.
abbrev pub Determines : {A : Type 0} → (A → Type 0) → Type 0
Determines {A} P = (r t : A) → P r → P t → r ≡ t
