-- What an answer's line shows: the number of its refusal, or 0, and how many results, and which. What
-- an answer of one result shows: the number and the value that a definition gives for each case of an
-- enum (document 01, "The form each place takes").
use Rattle.std.specs.Prelude.{ℕ, ◌≡◌, List, [], ◌∷◌, Result, Ok, Err}
use Rattle.vector.specs.Answers as Answers
use Rattle.probe.specs.declared.answer.Refusal.{Refusal}
use Rattle.probe.specs.declared.answer.Refusal.TheVariants.{Malformed, Unknown, Index}
use Rattle.probe.specs.declared.results.Results.{Results}

-- one result before five zeros that are not shown
abbrev pub one : ℕ → List ℕ
one n = n ∷ 0 ∷ 0 ∷ 0 ∷ 0 ∷ 0 ∷ []

-- a refusal's number
abbrev pub number_of : Refusal → ℕ
number_of Malformed = 1
number_of Unknown = 2
number_of Index = 10

-- how many zeros a refused call's line shows: one for the result that an index asks for
abbrev pub zeros_of : Refusal → ℕ
zeros_of Malformed = 0
zeros_of Unknown = 0
zeros_of Index = 1

abbrev pub refusal_of : Result Results Refusal → ℕ
refusal_of (Ok _) = 0
refusal_of (Err e) = number_of e

abbrev pub count_of : Result Results Refusal → ℕ
count_of (Ok r) = r.count
count_of (Err e) = zeros_of e

abbrev pub results_of : Result Results Refusal → List ℕ
results_of (Ok r) = r.words
results_of (Err _) = one 0

pub record Gives (refusal count : ℕ) (results : List ℕ) (r : Result Results Refusal) : Type 0 where
  pub refusal_is : refusal_of r ≡ refusal
  pub count_is : count_of r ≡ count
  pub results_are : results_of r ≡ results

-- the refusal, and the value in the form of a result
abbrev pub Shows : {A : Type 0} → (A → ℕ) → Answers.Answer A → Result Results Refusal → Type 0
Shows form a r = Gives a.refusal 1 (one (form a.value)) r
