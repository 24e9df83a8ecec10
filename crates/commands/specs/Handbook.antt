-- The handbook's table of refusals: which refusals each command can get on a sheet that commands have made (document 01, "Refused, and by whose doing"; document 02, a, d, f and g).
use Rattle.std.specs.Prelude.{ℕ, suc, ◌≡◌, Bool, false, ◌||◌, List, [], ◌∷◌, ◌++◌, map, T, eqb, get_or}
use Rattle.commands.specs.declared.command.Command.{Command}
use Rattle.commands.specs.Rows.{State}
use Rattle.commands.specs.Claim.{Sound, refusal_at}
use Rattle.commands.specs.Sittings.{last_of, answers_to}
use Rattle.commands.specs.HandbookSittings.{sittings}

-- the refusals of commands 0 to 37, each command's in the order in which they are checked: 3, 11, 4, 5, 8, 7, 12, 6
unfoldable pub handbook : List (List ℕ)
handbook =
    (3 ∷ [])  -- 0
    ∷ (3 ∷ 5 ∷ [])  -- 1
    ∷ (3 ∷ 4 ∷ 7 ∷ [])  -- 2
    ∷ (3 ∷ 4 ∷ 6 ∷ [])  -- 3
    ∷ (3 ∷ 4 ∷ 6 ∷ [])  -- 4
    ∷ (3 ∷ 4 ∷ 6 ∷ [])  -- 5
    ∷ (3 ∷ 4 ∷ [])  -- 6
    ∷ (3 ∷ 4 ∷ [])  -- 7
    ∷ (3 ∷ 4 ∷ 5 ∷ 6 ∷ [])  -- 8
    ∷ (3 ∷ 4 ∷ 5 ∷ 6 ∷ [])  -- 9
    ∷ (3 ∷ 4 ∷ 5 ∷ 6 ∷ [])  -- 10
    ∷ (3 ∷ 4 ∷ 7 ∷ 6 ∷ [])  -- 11
    ∷ (3 ∷ 4 ∷ 7 ∷ 6 ∷ [])  -- 12
    ∷ (3 ∷ 4 ∷ 5 ∷ 6 ∷ [])  -- 13
    ∷ (3 ∷ 4 ∷ 5 ∷ 6 ∷ [])  -- 14
    ∷ (3 ∷ 4 ∷ 6 ∷ [])  -- 15
    ∷ (3 ∷ 4 ∷ [])  -- 16
    ∷ (3 ∷ 4 ∷ [])  -- 17
    ∷ (3 ∷ 4 ∷ [])  -- 18
    ∷ (3 ∷ 4 ∷ 6 ∷ [])  -- 19
    ∷ (3 ∷ 4 ∷ 6 ∷ [])  -- 20
    ∷ (3 ∷ 4 ∷ [])  -- 21
    ∷ (3 ∷ 4 ∷ [])  -- 22
    ∷ (3 ∷ 4 ∷ 5 ∷ 8 ∷ [])  -- 23
    ∷ (3 ∷ 4 ∷ [])  -- 24
    ∷ (3 ∷ 4 ∷ 6 ∷ [])  -- 25
    ∷ (3 ∷ 4 ∷ 6 ∷ [])  -- 26
    ∷ (3 ∷ 4 ∷ 6 ∷ [])  -- 27
    ∷ (3 ∷ 4 ∷ 7 ∷ 6 ∷ [])  -- 28
    ∷ (3 ∷ 4 ∷ [])  -- 29
    ∷ (3 ∷ 4 ∷ [])  -- 30
    ∷ (3 ∷ 4 ∷ [])  -- 31
    ∷ (3 ∷ 4 ∷ [])  -- 32
    ∷ (11 ∷ [])  -- 33
    ∷ (3 ∷ 4 ∷ 6 ∷ [])  -- 34
    ∷ (3 ∷ 4 ∷ 6 ∷ [])  -- 35
    ∷ (3 ∷ 4 ∷ 12 ∷ 6 ∷ [])  -- 36
    ∷ (3 ∷ 4 ∷ [])  -- 37
    ∷ []

-- "refusal 2 begins above the highest command in use"
abbrev pub above_last : List ℕ
above_last = 2 ∷ []

-- the refusals of command n
unfoldable pub entry_for : ℕ → List ℕ
entry_for n = get_or handbook n above_last

unfoldable pub is_listed : ℕ → List ℕ → Bool
is_listed k [] = false
is_listed k (j ∷ rest) = eqb k j || is_listed k rest

-- each command, from n on, with each of its refusals
unfoldable pub pairs_from : ℕ → List (List ℕ) → List (ℕ × ℕ)
pairs_from n [] = []
pairs_from n (l ∷ rest) = map (λ (k : ℕ). (n, k)) l ++ pairs_from (suc n) rest

-- all that is listed, in order; the last is 2 for the first number above the last command
abbrev pub all_pairs : List (ℕ × ℕ)
all_pairs = pairs_from 0 (handbook ++ (above_last ∷ []))

-- a sitting's last command, and the refusal of its answer on the reference model
abbrev last_number : List Command → ℕ
last_number [] = 0
last_number (c ∷ []) = c.number
last_number (c ∷ d ∷ cs) = last_number (d ∷ cs)

abbrev pub given_in : List Command → ℕ × ℕ
given_in cs = (last_number cs, (last_of (answers_to cs)).refusal)

pub record Handbook : Type 0 where
  -- on a sheet that commands have made no command gets a refusal that is not in its list, whatever its fields
  pub no_other : (s : State) (c : Command) (k : ℕ) → Sound s → refusal_at s c ≡ suc k → T (is_listed (suc k) (entry_for c.number))
  -- and each that is listed is given: by a sitting for each, from a fresh sheet
  pub each_given : map given_in sittings ≡ all_pairs
