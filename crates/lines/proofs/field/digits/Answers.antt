-- `lines::field::digits` meets its contract. Assumes nothing.
use Rattle.std.proofs.Common.{◌≡◌, eqb, rules}
use Rattle.std.specs.Prelude.{not, position}
use Rattle.std.proofs.lemmas.Iterator.{YieldsList-from_slice}
use Rattle.std.proofs.lemmas.Iterator.Search.{position_from_yields_List}
use borrow.Author.Tests.{tests}
use Rattle.lines.proofs.numerals.ReadLaws.{part_behind}
use Rattle.lines.proofs.field.digits.Goals as goal

pub returns : goal.returns
returns c =
    let found : c.position.result ≡ position (λ b. not (eqb b 32)) c.args.field.now =
    position_from_yields_List (λ b. not (eqb b 32)) _ _ c.position.result c.position.ensures.ran (YieldsList-from_slice c.args.field.now cc) (λ x b q k. search (rules, tests)) in
    part_behind c.args.field.now c.unwrap_or-blanks.result (rw (← found) c.unwrap_or-blanks.ensures)
