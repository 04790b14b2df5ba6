-- The rows of an accepted source are settled, and draft rows that match them, as those of its resolved text do, pass every stage again, with the
-- same numbers and finished rows.
-- Assumes nothing.
use mathlib.Core.Path.{◌≡◌, ap, sym, ◌∙◌}
use mathlib.Core.Bool.{true}
use mathlib.Core.List.{List, [], map}
use Prim.Native.Nat.{ℕ, ◌≤◌, ◌<◌}
use lib.ListN.{length}
use Rattle.numbers.specs.Numbers.{numbered, free_count}
use Rattle.numbers.proofs.Numbering.{Own}
use Rattle.circles.specs.Circles.{NoCircle}
use Rattle.rule_steps.specs.Steps.{rule_steps}
use Rattle.rows.specs.Codes as code
use Rattle.rows.specs.Columns as column
use Rattle.rows.specs.Cells.{without_places}
use Rattle.ll1.specs.Trees.{Trees}
use Rattle.grammar.specs.Derivation.{Derives, NowhereTooDeep}
use Rattle.grammar.specs.Source.{source_tokens}
use Rattle.grammar.specs.Ranges.{out_of_range, second_words}
use Rattle.answers.specs.Rows.{Draft, rules_in}
use Rattle.answers.specs.Stages.{cell, is, repeated_forms, repeated_questions, repeated_names, rules_over_limit, unfound, bad_choices, own_numbers, finished}
use Rattle.answers.specs.Answer.{LONGEST, drafts}
use Rattle.answers.specs.Text.{row_first_at}
use Rattle.answers.specs.Demand3.{Sound}
use Rattle.answers.proofs.Demand3.{numbers_exactly}
use Rattle.drafts.specs.Sound.{SoundRows}
use Rattle.sound.proofs.Lists.{All}
use Rattle.sound.proofs.DraftsSound.{drafts_sound}
use Rattle.answers.proofs.FoundRows.{map_map}
use Rattle.answers.proofs.RowPlaces.{rows_by_place}
use Rattle.again.specs.Matches.{Pairs, Settled, final, Match}
use Rattle.again.specs.RuleNumbers.{rule_numbers, From}
use Rattle.again.proofs.Lists.{all_with, sound_each, pairs_second, alike_pairs}
use Rattle.again.proofs.RuleNumbers.{rules_count}
use Rattle.again.proofs.Questions.{numbered_kept, none_repeated}
use Rattle.again.proofs.SettledRows as SettledRows
use Rattle.again.proofs.SettledRows.{all_find}
use Rattle.again.proofs.Likeness.{Like, like}
use Rattle.again.proofs.LikeStages.{forms_like, limit_like, choices_like}
use Rattle.again.proofs.TextRows.{finished_numbers, rules_same, Says, all_say}
use Rattle.again.proofs.TextNames.{none_named_twice}
use Rattle.again.proofs.TextReferences.{finished_as_is, all_found}
use Rattle.again.proofs.SameSteps.{steps_besides}

module _ (s : List ℕ) (tree : Trees) (sound : Sound s tree) (short : length s ≤ LONGEST) where
  -- the source's draft rows, and its finished rows by their places
  abbrev ds : List Draft
  ds = drafts s tree

  abbrev look : ℕ → List ℕ
  look = row_first_at (finished s (drafts s tree))

  -- each draft row's finished row is found at its place: a question has got a number, a reference has found one
  pub settled : All (Settled look) ds
  settled = SettledRows.settled s tree sound short

  -- no rule's number is over 255
  pub rules_below : All (λ d. is code.RULE d ≡ true → cell column.OWN d < 256) ds
  rules_below = SettledRows.rules_below ds sound.limit

  own : Own (numbered (own_numbers ds))
  own = SettledRows.own s tree sound short

  -- ---- draft rows that match the source's

  module _ (t : List ℕ) {ds' : List Draft} (matches : Pairs (Match t look) ds' ds) where
    alike : Pairs Like ds' ds
    alike = pairs_second (λ d' d m v. like t look m v) matches settled

    -- the questions write the numbers that the source's questions got
    pub same_numbers : own_numbers ds' ≡ numbered (own_numbers ds)
    same_numbers = finished_numbers t look matches ∙ rw (rows_by_place s tree sound.derives) (numbers_exactly s tree sound.derives)

    kept : numbered (own_numbers ds') ≡ own_numbers ds'
    kept = numbered_kept (rw same_numbers own)

    -- so they get these again, and as many stay free
    pub numbered_again : numbered (own_numbers ds') ≡ numbered (own_numbers ds)
    numbered_again = kept ∙ same_numbers

    pub free_again : free_count (numbered (own_numbers ds')) ≡ free_count (numbered (own_numbers ds))
    free_again = ap free_count numbered_again

    told : All (Says t ds') ds'
    told = all_say t look same_numbers alike own matches settled (SettledRows.resolved s tree sound short)

    -- 7: form number repeated
    pub forms_again : repeated_forms ds' ≡ []
    forms_again = forms_like alike sound.forms

    -- 8: written question number repeated
    pub questions_again : repeated_questions ds' ≡ []
    questions_again = none_repeated ds' (rw same_numbers own.once)

    -- 9: name repeated; only questions and rules declare names
    pub names_again : SoundRows ds' → repeated_names t ds' ≡ []
    names_again rows =
        let counted : From 0 (rule_numbers ds') (rules_in tree) = rw (rules_same alike) (rules_count s tree sound.derives) in
        none_named_twice t (all_with (λ d u v. (u, v)) (sound_each rows.each) told) counted

    -- 10: a 256th rule
    pub limit_again : rules_over_limit ds' ≡ []
    limit_again = limit_like alike sound.limit

    -- 11: goto, questionref or ruleref finds nothing
    pub references_again : unfound t ds' ≡ []
    references_again = all_found t s alike (all_find s ds sound.references) told

    -- 12: choices
    pub choices_again : bad_choices ds' ≡ []
    choices_again = choices_like alike sound.choices

    -- the finished rows: only a ruleref gets its number from a name
    pub finished_again : finished t ds' ≡ map (final t) ds'
    finished_again = finished_as_is t told kept

    -- but for their places they are the source's
    pub rows_again : map without_places (finished t ds') ≡ map without_places (finished s ds)
    rows_again =
        let places : Draft → List ℕ = λ d. look (cell column.PLACE d) in
        rw finished_again
        (sym (map_map without_places (final t) ds')
        ∙ alike_pairs (λ d. without_places (final t d)) (λ d. without_places (places d)) (λ d' d m. m.same) matches
        ∙ map_map without_places places ds
        ∙ ap (map without_places) (rows_by_place s tree sound.derives))

    -- 14: a rule that reaches itself; the steps between rules are the same
    pub circles_again : NoCircle (rule_steps (finished t ds'))
    circles_again = rw (steps_besides (finished t ds') (finished s ds) rows_again) sound.circles

  -- ---- the derivation of a text

  -- where its rows match the source's, the text is sound too
  pub sound_again :
      (t : List ℕ) (tree' : Trees) → length t ≤ LONGEST → Derives (source_tokens t) tree' → NowhereTooDeep tree' → second_words tree' ≡ []
      → out_of_range t tree' ≡ [] → Pairs (Match t look) (drafts t tree') ds → Sound t tree'
  sound_again t tree' short' derives depths words ranges matches =
      record {
        derives = derives;
        depths = depths;
        words = words;
        ranges = ranges;
        forms = forms_again t matches;
        questions = questions_again t matches;
        names = names_again t matches (drafts_sound t tree' short' derives ranges);
        limit = limit_again t matches;
        references = references_again t matches;
        choices = choices_again t matches;
        circles = circles_again t matches;
      }
