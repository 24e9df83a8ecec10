-- The loop of `run`: one command more, its six numbers written behind what is written, and what is promised once all are done. Assumes nothing.
use Prim.Native.Nat.{ℕ, zero, suc, ◌+◌, ◌*◌, ◌/◌, ◌%◌, ◌≤◌, ◌<◌}
use mathlib.Core.Path.{◌≡◌, refl, sym, ap, ◌∙◌, subst}
use mathlib.Core.Bool.{Bool, true, false, cond, ◌||◌, true≢false}
use mathlib.Core.List.{List, [], ◌∷◌, ◌++◌, append_assoc, append-nil}
use native.Mathlib.Omega.{arith}
use native.Mathlib.Numerals.{add-one}
use lib.Dec.{eqb, ltb}
use borrow.Author.Tests.{ltb-false, eq-eqb}
use lib.ListN.{length, drop, replicate, length-append, length-drop}
use lib.Seq.{sets, sets-eq, take-append_seam, drop-append-add, drop-drop}
use Rattle.commands.specs.declared.codes.Refusal.{Refusal}
use Rattle.commands.specs.RefusalNumbers.{number_of}
use Rattle.commands.specs.declared.command.Command.{Command}
use Rattle.commands.specs.Codes.{ill_formed, lent_too_short}
use Rattle.commands.specs.Rows.{State, fresh}
use Rattle.commands.specs.Answers.{ModelAnswer, numbers_of}
use Rattle.commands.specs.Model.{Stepped, Ran, run_by, run_from}
use Rattle.commands.specs.Claim.{Claim}
use Rattle.sheet.specs.Words.{state_words, model_of, lent_step, lent_run}
use Rattle.commands.specs.Fields.{command_of}
use Rattle.sheet.specs.Run.{commands_of, count, list_of, all_numbers_of, SteppedAt, stepped_at, lent_step_at, refusal_of_lengths, list_refusal, Runs, RunsAll}
use Rattle.commands.proofs.FirstLaws.{number_not_0}
use Rattle.commands.proofs.ClaimLaws.{model_claim}
use Rattle.sheet.proofs.words.WordLaws.{zeros_fresh}
use Rattle.sheet.proofs.RunByLaws.{run_snoc_state, run_snoc_answers}
use Rattle.sheet.proofs.LentLaws.{run_lent, length_run, lent_claim}
use Rattle.sheet.proofs.LentStepLaws.{at_room}

-- ---- lists
module _ {S : Type 0} (f : S → Command → Stepped S) where
  length_numbers : (s : S) (k : ℕ) (l : List ℕ) → length (all_numbers_of (run_by f s (commands_of k l)).answers) ≡ k * 6
  unfolding run_by commands_of all_numbers_of
  length_numbers s zero l = refl
  length_numbers s (suc k) l =
      let o = f s (command_of l) in
      omega (
        arith,
        length-append (numbers_of o.answer) (all_numbers_of (run_by f o.state (commands_of k (drop 7 l))).answers),
        length_numbers o.state k (drop 7 l),
      )

commands_snoc : (k : ℕ) (l : List ℕ) → commands_of (suc k) l ≡ commands_of k l ++ (command_of (drop (k * 7) l) ∷ [])
unfolding commands_of
commands_snoc zero l = refl
commands_snoc (suc k) l = let e : suc k * 7 ≡ 7 + k * 7 = omega arith in rw (e, ← drop-drop (k * 7) 7 l, commands_snoc k (drop 7 l))

numbers_snoc : (xs : List ModelAnswer) (x : ModelAnswer) → all_numbers_of (xs ++ (x ∷ [])) ≡ all_numbers_of xs ++ numbers_of x
unfolding all_numbers_of
numbers_snoc [] x = append-nil (numbers_of x)
numbers_snoc (y ∷ xs) x = rw (numbers_snoc xs x) (sym (append_assoc (numbers_of y) (all_numbers_of xs) (numbers_of x)))

-- what is written after f takes the place of the front of d
sets_after : (f d vs : List ℕ) (at : ℕ) → length f ≡ at → length vs ≤ length d → sets (f ++ d) at vs ≡ (f ++ vs) ++ drop (length vs) d
sets_after f d vs at e h =
    rw (← e, sets-eq vs (f ++ d) (length f) (rw (length-append f d) (omega arith)), take-append_seam f d, drop-append-add f d (length vs))

-- ---- the loop
-- the run after i commands
abbrev after : List ℕ → List ℕ → ℕ → Ran (List ℕ)
after w₀ cs i = lent_run w₀ (commands_of i cs)

-- what holds at the loop's test
pub record Held (w₀ cs out₀ : List ℕ) (n : ℕ) (w out : List ℕ) (i : ℕ) : Type 0 where
  pub long : state_words ≤ length w₀
  pub whole : n ≡ count cs
  pub room : n * 6 ≤ length out₀
  pub so_far : i ≤ n
  pub words : w ≡ (after w₀ cs i).state
  pub answers : out ≡ all_numbers_of (after w₀ cs i).answers ++ drop (i * 6) out₀

module _ {w₀ cs out₀ w out : List ℕ} {n i : ℕ} (h : Held w₀ cs out₀ n w out i) where
  pub length_words : length w ≡ length w₀
  length_words = ap length h.words ∙ length_run w₀ (commands_of i cs) h.long

  pub length_answers : length out ≡ length out₀
  length_answers =
      omega (
        arith,
        ap length h.answers,
        length-append (all_numbers_of (after w₀ cs i).answers) (drop (i * 6) out₀),
        length_numbers lent_step w₀ i cs,
        length-drop (i * 6) out₀,
        h.so_far,
        h.room,
      )

  pub held_more :
      (w' out' : List ℕ) (r : ℕ) → i < n → stepped_at w' out' r ≡ lent_step_at w (command_of (drop (i * 7) cs)) out (i * 6) → Held w₀ cs out₀ n w' out' (i + 1)
  held_more w' out' r lt st =
      let c = command_of (drop (i * 7) cs) in
      let x = (lent_step (after w₀ cs i).state c).answer in
      let done = st ∙ sym (at_room w c out (i * 6) (omega (arith, length_answers, h.room, lt))) in
      let room : length (numbers_of x) ≤ length (drop (i * 6) out₀) = omega (arith, length-drop (i * 6) out₀, h.room, lt) in
      let six : (i + 1) * 6 ≡ i * 6 + 6 = omega arith in
      let next : after w₀ cs (i + 1) ≡ lent_run w₀ (commands_of i cs ++ (c ∷ [])) = rw (add-one i, commands_snoc i cs) in
      let left : w' ≡ (lent_step (after w₀ cs i).state c).state =
      ap (λ (o : SteppedAt). o.state) done ∙ ap (λ (k : List ℕ). (lent_step k c).state) h.words in
      let told : out' ≡ sets out (i * 6) (numbers_of x) =
      ap (λ (o : SteppedAt). o.out) done ∙ ap (λ (k : List ℕ). sets out (i * 6) (numbers_of (lent_step k c).answer)) h.words in
      record {
        long = h.long;
        whole = h.whole;
        room = h.room;
        so_far = omega arith;
        words = rw (next, run_snoc_state lent_step w₀ (commands_of i cs) c) left;
        answers =
            rw (
              told,
              h.answers,
              sets_after (all_numbers_of (after w₀ cs i).answers) (drop (i * 6) out₀) (numbers_of x) (i * 6) (length_numbers lent_step w₀ i cs) room,
              drop-drop 6 (i * 6) out₀,
              six,
              next,
              run_snoc_answers lent_step w₀ (commands_of i cs) c,
              numbers_snoc (after w₀ cs i).answers x,
            );
      }

pub held_none : (w₀ cs out₀ : List ℕ) (n : ℕ) → state_words ≤ length w₀ → n ≡ count cs → n * 6 ≤ length out₀ → Held w₀ cs out₀ n w₀ out₀ 0
unfolding run_by commands_of all_numbers_of
held_none w₀ cs out₀ n l e r = record { long = l; whole = e; room = r; so_far = omega arith; words = refl; answers = refl }

-- ---- the list's refusal, and what is promised of the whole
pub lengths_fit : (words n l : ℕ) → refusal_of_lengths words n l ≡ 0 → (state_words ≤ words) × (n / 7 * 6 ≤ l)
unfolding refusal_of_lengths
lengths_fit words n l h = go (ltb words state_words) (ltb l (n / 7 * 6)) refl refl h
  where
    go :
        (a b : Bool) → ltb words state_words ≡ a → ltb l (n / 7 * 6) ≡ b
        → ◌≡◌ {A = ℕ} (cond (a || b) lent_too_short (cond (eqb (n % 7) 0) 0 ill_formed)) 0
        → (state_words ≤ words) × (n / 7 * 6 ≤ l)
    go true b ea eb k = absurd (omega (arith, k))
    go false true ea eb k = absurd (omega (arith, k))
    go false false ea eb k = (ltb-false words state_words ea, ltb-false l (n / 7 * 6) eb)

pub run_done :
    (w₀ cs out₀ : List ℕ) (n : ℕ) (w out : List ℕ) (i : ℕ) → list_refusal w₀ cs out₀ ≡ 0 → Held w₀ cs out₀ n w out i → n ≤ i → Runs w₀ cs out₀ w out 0
run_done w₀ cs out₀ n w out i none h le =
    let e : i ≡ count cs = omega (arith, h.whole, h.so_far) in
    let whole = subst (Held w₀ cs out₀ n w out) e h in
    let claimed = lent_claim w₀ (list_of cs) h.long in
    record {
      refusal = sym none;
      words = λ _. whole.words;
      answers = λ _. whole.answers;
      claim = λ _. subst (λ (v : List ℕ). Claim (model_of w₀) (list_of cs) (lent_run w₀ (list_of cs)).answers (model_of v)) (sym whole.words) claimed;
      untouched = λ k e. absurd (omega (arith, e));
    }

pub run_refused : (w₀ cs out₀ : List ℕ) (k : Refusal) → number_of k ≡ list_refusal w₀ cs out₀ → Runs w₀ cs out₀ w₀ out₀ (number_of k)
run_refused w₀ cs out₀ k e =
    let some : number_of k ≡ 0 → ⊥ = λ z. true≢false (sym (eq-eqb (number_of k) 0 z) ∙ number_not_0 k) in
    record { refusal = e; words = λ z. absurd (some z); answers = λ z. absurd (some z); claim = λ z. absurd (some z); untouched = λ j g. (refl, refl) }

-- from words that are all 0
abbrev pub zeros : List ℕ
zeros = replicate state_words 0

fresh_answers : (cs : List Command) → (lent_run zeros cs).answers ≡ (run_from fresh cs).answers
fresh_answers cs = ap (λ (r : Ran State). r.answers) (run_lent zeros cs (omega arith)) ∙ ap (λ (s : State). (run_from s cs).answers) (ap model_of (sym (append-nil zeros)) ∙ zeros_fresh [])

pub all_run : (cs before w after : List ℕ) (r : ℕ) → Runs zeros cs before w after r → RunsAll cs before after r
all_run cs before w after r h =
    record {
      refusal = h.refusal;
      answers = λ z. h.answers z ∙ ap (λ (xs : List ModelAnswer). all_numbers_of xs ++ drop (count cs * 6) before) (fresh_answers (list_of cs));
      claim = λ _. model_claim.every_list fresh (list_of cs);
      untouched = λ k e. (h.untouched k e).1;
    }
