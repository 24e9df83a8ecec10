-- What an answer that is an enum shows (document 01, "The form each place takes": "a definition gives this paper's number and values for each of its
-- cases"): a refusal's number, 0 for none, and a value, the zero where it is refused ("Returned: the number, .. zeros").
use Rattle.std.specs.Prelude.{ℕ}

pub record Answer (A : Type 0) : Type 0 where
  pub refusal : ℕ
  pub value : A

abbrev pub given : {A : Type 0} → A → Answer A
given v = record { refusal = 0; value = v }

abbrev pub refused : {A : Type 0} → ℕ → A → Answer A
refused n zero = record { refusal = n; value = zero }
