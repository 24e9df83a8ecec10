-- A command whose number is known: its refusal, and what it does where it is done. Assumes nothing.
use Prim.Native.Nat.{ℕ}
use mathlib.Core.Path.{◌≡◌, ap, ◌∙◌}
use Rattle.commands.specs.declared.command.Command.{Command}
use Rattle.commands.specs.Rows.{State}
use Rattle.commands.specs.Commands.{entry_at}
use Rattle.commands.specs.Effects.{effect_of}
use Rattle.commands.specs.Model.{applied, step_of}
use Rattle.commands.specs.Claim.{sources_at, refusal_at}
use Rattle.commands.proofs.claim.StepLaws.{step_done}

abbrev pub numbered : ℕ → Command → Command
numbered n c = record { number = n; t = c.t; a = c.a; b = c.b; u = c.u; v = c.v; w = c.w }

pub at_number : (n : ℕ) (s : State) (c : Command) → c.number ≡ n → refusal_at s c ≡ refusal_at s (numbered n c)
at_number n s c is = ap (λ (k : ℕ). refusal_at s (numbered k c)) is

pub does : (n : ℕ) (s : State) (c : Command) → c.number ≡ n → refusal_at s c ≡ 0 → step_of s c ≡ applied s c.t (effect_of ((entry_at n).result (sources_at s c)))
does n s c is e = step_done s c e ∙ ap (λ (k : ℕ). applied s c.t (effect_of ((entry_at k).result (sources_at s c)))) is
