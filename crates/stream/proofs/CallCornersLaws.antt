-- The cases of calls of specs/CallCorners hold: each is computed from the definitions. Assumes nothing.
use Rattle.std.specs.Prelude.{refl, Some, [], ◌∷◌, ◌++◌, take, drop, replicate}
use Rattle.std.specs.Float.Ieee as Ieee
use Rattle.vector.specs.Comparisons as Comparisons
use Rattle.commands.specs.declared.codes.Refusal.TheVariants.{IllFormed, LentTooShort}
use Rattle.commands.specs.Commands as Commands
use Rattle.commands.specs.Refusals as Refusals
use Rattle.commands.specs.Effects as Effects
use Rattle.commands.specs.Model as Model
use Rattle.commands.specs.Fields as Fields
use Rattle.sheet.specs.Rows as RowWords
use Rattle.sheet.specs.History as History
use Rattle.sheet.specs.Words as Words
use Rattle.sheet.specs.Words.{fresh_words}
use Rattle.lines.specs.Field as Field
use Rattle.lines.specs.Columns as Columns
use Rattle.lines.specs.CommandLine as CommandLine
use Rattle.lines.specs.AnswerLine as AnswerLine
use Rattle.lines.specs.Corners as Texts
use Rattle.stream.specs.Responses as Responses
use Rattle.stream.specs.Stream as Stream
use Rattle.stream.specs.Calls.{feed, short, ended}
use Rattle.stream.specs.Lives.{start, next}
use Rattle.stream.specs.Corners.{point, point_answer, ill}
use Rattle.stream.specs.CallCorners.{CallCorners, holds, point_words, fed, end, lent_less, no_byte, lent_more}

pub call_corners : CallCorners
unfolding Texts.bytes Responses.response Responses.answer_text Responses.respond_of Stream.pushed Stream.byte_fed Stream.feed_of Stream.consumed_of Stream.fed_into Stream.end_of Stream.ended_of Fields.command_of Field.digits Field.decimal Field.value_from Field.value Field.leading_zero Field.number Field.glyph Field.lead Field.written Columns.field_at Columns.both Columns.numbers_at Columns.text CommandLine.numbers AnswerLine.answer_line Words.lent_step Words.model_of Words.words_after RowWords.rows_from RowWords.word_row RowWords.put_row RowWords.row_words History.ring_of History.entries_from History.unwound History.remembered Model.applied Effects.effect_of Effects.unless_refused Effects.command_effect Commands.table Commands.entry_at Fields.allows Refusals.unknown Refusals.no_row Refusals.nothing_remembered Refusals.bad_source Refusals.out_of_order Refusals.out_of_range Refusals.bad_value Refusals.no_refraction Refusals.lacks_direction Refusals.no_direction Refusals.no_meeting Refusals.not_finite Refusals.first Refusals.early Refusals.late Refusals.refusals Refusals.refusal_of Comparisons.is_finite Ieee.of_bits Ieee.to_bits
call_corners =
    let first = take 20 point in
    record {
      -- 20 bytes with 42 lent, of which none is consumed, and again with 43; the rest and the blank with 43, of which the blank is left; the blank with 50; the
      -- end with 42, which 9 refuses, and with 45
      in_pieces =
          feed {w = fresh_words []} (fed first (replicate 42 7) (holds [] 0) 0 0 (fresh_words []) (replicate 42 7)) refl
          (feed {w = fresh_words []} (fed first (replicate 43 7) (holds first 20) 20 0 (fresh_words []) (replicate 43 7)) refl
          (feed (fed (drop 20 point ++ (32 ∷ [])) (replicate 43 7) (holds [] 0) 26 43 point_words point_answer) refl
          (feed (fed (32 ∷ []) (replicate 50 7) (holds (32 ∷ []) 1) 1 0 point_words (replicate 50 7)) refl
          (short (end (replicate 42 7) 0 (Some LentTooShort) (replicate 42 7)) refl refl (ended (end (replicate 45 7) 43 (Some IllFormed) (ill ++ (7 ∷ 7 ∷ []))) refl (λ e. cc))))));
      by_lines = next {w = fresh_words []} lent_less refl (next {w = fresh_words []} no_byte refl (next {w = fresh_words []} lent_more refl start));
    }
