-- The row of each statement is sound, where its trees fit the grammar and its numbers keep their ranges.
-- Assumes nothing.
use mathlib.Core.Path.{◌≡◌, refl}
use mathlib.Core.List.{List}
use mathlib.Core.Bool.{Bool, true, false}
use Prim.Native.Nat.{ℕ, zero, suc, ◌+◌, ◌≤◌, ◌<◌}
use native.Mathlib.Omega.{arith}
use lib.Dec.{eqb, ltb}
use borrow.Author.Tests.{eqb-true, lt-ltb}
use Rattle.numbers.specs.Numbers.{number_limit, is_number}
use Rattle.rows.specs.Codes as code
use Rattle.rows.specs.Codes.{member, questions, is_question}
use Rattle.rows.specs.Draft.{HALF}
use Rattle.rows.specs.Flags as flag
use Rattle.ll1.specs.Trees.{Trees}
use Rattle.ll1.proofs.Basics.{clash}
use Rattle.grammar.specs.Rules.{<source>, <form>, <rule>, <item>, <number_default>?, <option>, <head>, <name>?, <questionid>?}
use Rattle.grammar.specs.Grammar.{rules}
use Rattle.grammar.specs.Source.{number_at}
use Rattle.answers.specs.Answer.{LONGEST}
use Rattle.grammar.specs.Parts.{child, chosen, place_at}
use Rattle.grammar.specs.Parts.{when, mark}
use Rattle.grammar.specs.Flags.{flags}
use Rattle.grammar.proofs.FlagTotals.{flags_le}
use Rattle.answers.specs.Rows.{value, item, option, rule_draft, form, form_set}
use Rattle.drafts.specs.Sound.{SoundRow}
use Rattle.sound.proofs.Kept.{Node, part, place_at_lem, mark_at, id_range, string_range}
use Rattle.sound.proofs.SoundRow.{sound_row, Other, bare, Asked, question_other}

-- ---- what stands only where a condition holds

when_le : (t : Bool) (n m : ℕ) → n ≤ m → when t n ≤ m
when_le true n m h = h
when_le false n m h = omega arith

-- for what a row of this code does not have to say
never : {P : Type 0} → false ≡ true → P
never e = clash cc

module _ (s : List ℕ) where
  abbrev number_at_lem : ℕ → ℕ
  number_at_lem = number_at s

  -- ---- HEAD: [name = NAME ,] [questionid = N ,] prompt = STR , help = STR

  -- the number is a question's, and written where its mark is
  abbrev Written : Bool → Trees → Type 0
  Written t c = (when t (value number_at_lem 2 c) < number_limit) × (ltb 0 (when t (value number_at_lem 2 c)) ≡ ltb 0 (when t (mark (place_at 0 (child 2 c)))))

  written : {i : ℕ} {c : Trees} → Node s <questionid>? i c → (t : Bool) → eqb i 1 ≡ t → Written t c
  unfolding rules
  written {i} {c} q true e =
      let r = id_range s (rw (eqb-true i 1 e) at q) 2 refl in
      (r.1, rw (lt-ltb 0 (value number_at_lem 2 c) r.0, lt-ltb 0 (mark (place_at 0 (child 2 c))) (omega arith)))
  written q false e = (omega arith, refl)

  head_asked : {i : ℕ} {h : Trees} → Node s <head> i h → Asked number_at_lem h
  unfolding rules
  head_asked {i} {h} t =
      let questionid = part s t 1 <questionid>? refl in
      let own = written questionid (eqb (chosen 1 h) 1) refl in
      record {
        first = string_range s t 4 refl;
        second = string_range s t 8 refl;
        own = own.0;
        own_mark = when_le (eqb (chosen 1 h) 1) _ _ (mark_at s questionid 2);
        written = own.1;
        name = when_le (eqb (chosen 0 h) 1) _ _ (omega (arith, place_at_lem s (part s t 0 <name>? refl) 2));
      }

  -- ---- items

  -- flags, and the one for a written default
  flags_small : (t : Bool) (f : Trees) → flags f + when t flag.HAS_DEFAULT < HALF
  flags_small t f = omega (arith, flags_le f, when_le t flag.HAS_DEFAULT 256 (omega arith))

  pub item_other : {c : Trees} (parent i : ℕ) → Node s <item> i c → Other (item number_at_lem parent i c)
  unfolding rules is_question questions member
  item_other parent zero t =
      bare code.SUBTITLE parent 0 _ 0 0 0 0 0 _ refl (string_range s t 3 refl) (omega arith) (place_at_lem s t 0)
  item_other parent (suc zero) t =
      bare code.TEXT parent 0 _ _ 0 0 0 0 _ refl (string_range s t 7 refl) (string_range s t 3 refl) (place_at_lem s t 0)
  item_other parent (suc (suc zero)) t = bare code.LABEL parent _ 0 0 0 0 0 0 _ refl (omega arith) (omega arith) (place_at_lem s t 0)
  item_other {c} parent (suc (suc (suc zero))) t =
      question_other number_at_lem code.GOTO parent (child 3 c) _ _ 0 0 0 0 _ _ 0 refl (head_asked (part s t 3 <head> refl))
      (omega (arith, flags_le (child 4 c))) (place_at_lem s t 0) (mark_at s t 1) (omega arith) (λ e. omega arith)
  item_other {c} parent (suc (suc (suc (suc zero)))) t =
      question_other number_at_lem code.CHECKBOX parent (child 1 c) _ 0 0 0 _ 0 _ 0 0 refl (head_asked (part s t 1 <head> refl))
      (flags_small (eqb (chosen 4 c) 1) (child 3 c)) (place_at_lem s t 0) (omega arith) (omega arith) never
  item_other {c} parent (suc (suc (suc (suc (suc zero))))) t =
      question_other number_at_lem code.NUMERIC parent (child 1 c) _ _ _ _ _ _ _ _ _ refl (head_asked (part s t 1 <head> refl))
      (flags_small (eqb (chosen 13 c) 1) (child 3 c)) (place_at_lem s t 0) (mark_at s t 10)
      (when_le (eqb (chosen 13 c) 1) _ _ (mark_at s (part s t 13 <number_default>? refl) 2)) (λ e. omega arith)
  item_other {c} parent (suc (suc (suc (suc (suc (suc zero)))))) t =
      question_other number_at_lem code.ONE_OF parent (child 1 c) _ 0 0 0 0 0 _ 0 0 refl (head_asked (part s t 1 <head> refl))
      (omega (arith, flags_le (child 3 c))) (place_at_lem s t 0) (omega arith) (omega arith) never
  item_other parent (suc (suc (suc (suc (suc (suc (suc zero))))))) t =
      bare code.SUPPRESS_IF parent 0 0 0 0 0 0 0 _ refl (omega arith) (omega arith) (place_at_lem s t 0)
  item_other parent (suc (suc (suc (suc (suc (suc (suc (suc zero)))))))) t =
      bare code.GRAY_OUT_IF parent 0 0 0 0 0 0 0 _ refl (omega arith) (omega arith) (place_at_lem s t 0)
  item_other parent (suc (suc (suc (suc (suc (suc (suc (suc (suc zero))))))))) t =
      bare code.DISABLE_IF parent 0 0 0 0 0 0 0 _ refl (omega arith) (omega arith) (place_at_lem s t 0)
  item_other parent (suc (suc (suc (suc (suc (suc (suc (suc (suc (suc i)))))))))) t = clash (cc t.is)

  -- ---- the other statements

  module _ {i : ℕ} {c : Trees} where
    pub form_set_other : Node s <source> i c → Other (form_set number_at_lem c)
    unfolding rules is_question questions member
    form_set_other t = bare code.FORM_SET 0 0 _ _ _ _ 0 0 _ refl (string_range s t 7 refl) (string_range s t 11 refl) (place_at_lem s t 0)

    pub form_other : (parent : ℕ) → Node s <form> i c → Other (form number_at_lem parent c)
    unfolding rules is_question questions member
    form_other parent t =
        let own = id_range s t 3 refl in
        let numbered : is_number (value number_at_lem 3 c) ≡ true = rw (lt-ltb 0 _ own.0, lt-ltb _ number_limit own.1) in
        record {
          sound =
              sound_row (omega (arith, string_range s t 7 refl, mark_at s t 3, place_at_lem s t 0))
              (λ e. (numbered, omega arith)) never never never never (λ e. absurd (omega arith));
          no_option = refl;
        }

    pub rule_other : (parent n : ℕ) → Node s <rule> i c → Other (rule_draft number_at_lem parent n c)
    unfolding is_question questions member
    rule_other parent n t =
        record {
          sound = sound_row (omega (arith, place_at_lem s t 0, place_at_lem s t 1)) never never never never never (λ e. refl);
          no_option = refl;
        }

    pub option_sound : (parent : ℕ) → Node s <option> i c → SoundRow (option number_at_lem parent c)
    unfolding rules is_question questions member
    option_sound parent t =
        let default = eqb (chosen 11 c) 1 in
        let word = when_le default (mark (place_at 0 (child 11 c))) (suc LONGEST) (mark_at s t 11) in
        let flags = when_le default flag.OPTION_DEFAULT 16 (omega arith) in
        sound_row (omega (arith, string_range s t 3 refl, mark_at s t 7, place_at_lem s t 0)) never never (λ e. omega arith) never never (λ e. absurd (omega arith))
