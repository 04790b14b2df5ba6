-- The shape of each statement is ranged, where the cells of its row are.
-- Assumes nothing.
use mathlib.Core.Path.{◌≡◌, refl, sym, subst}
use mathlib.Core.List.{List, [], ◌∷◌}
use mathlib.Core.Bool.{Bool, true, false}
use Prim.Native.Nat.{ℕ, ◌^◌, ◌<◌}
use native.Mathlib.Omega.{arith}
use lib.Dec.{eqb}
use Rattle.lexemes.specs.Classes as class
use Rattle.rows.specs.Columns as column
use Rattle.rows.specs.Flags as flag
use Rattle.rows.specs.Sizes.{NO_SIZE}
use Rattle.sizes.specs.Sizes.{modulus}
use Rattle.ll1.proofs.Basics.{clash}
use Rattle.grammar.specs.Positions.{default_value}
use Rattle.grammar.specs.Ranges.{bytes, ranges, range_of}
use Rattle.grammar.specs.Flags.{FlagWord, size_words, display_words, first_of}
use Rattle.grammar.proofs.FlagTotals.{first_passes, count, count_passes}
use Rattle.answers.specs.Text.{has_flag, numeric_list}
use Rattle.formulas.specs.Shapes.{Shape, s_nil, part}
use Rattle.formulas.specs.Formula.{Formula}
use Rattle.roundtrip.proofs.Phrases.{cell, say, ending, string_under, head_under, row_flags, FlagRules, flag_rules, numeric_flag_rules, flags_under, flags_part, goto_flags_part, present, truth_default_under, number_default_under, option_flags_under, step_under, subtitle_under, text_under, label_under, goto_under, checkbox_under, numeric_under, one_of_under, condition_under, option_under, rule_under, form_under, eight_under, guid_under, form_set_under}
use Rattle.roundtrip.proofs.FlagLists.{Listed, flags_are_listed, numeric_flags_are_listed, Known, flags_known, list_ranged, under_read, part_read}
use Rattle.roundtrip.proofs.NumericLists.{size_among, numeric_flags_known, one_size, one_display}
use Rattle.roundtrip.proofs.Ranged.{Keeps, NumbersFit, size_named, OneEach, NodeKeeps, Ranged, Fine, formula_ranged}

-- a number from 1 to 65,535
abbrev pub Id : ℕ → Type 0
Id n = (0 < n) × (n < 65536)

-- ---- parts

string_ranged : (n : ℕ) → n < 65536 → Ranged (string_under n)
unfolding range_of ranges
string_ranged n h = (omega arith, (omega arith, ((omega arith, omega (arith, h)), (omega (arith, h), tt), (omega arith, tt))))

head_ranged : (r : List ℕ) → Id (cell column.OWN r) → cell column.FIRST r < 65536 → cell column.SECOND r < 65536 → Ranged (head_under r)
unfolding range_of ranges
head_ranged r ho hf hs = (tt, tt, (tt, (omega arith, (omega arith, ((omega (arith, ho.0), omega (arith, ho.1)), (omega (arith, ho.1), tt), (omega arith, tt)))), (omega arith, (omega arith, (tt, string_ranged (cell column.FIRST r) hf, (omega arith, (omega arith, (omega arith, (tt, string_ranged (cell column.SECOND r) hs, tt)))))))))

goto_flags_ranged : (ws : List FlagWord) → Known flag_rules ws → Ranged (goto_flags_part ws)
unfolding range_of ranges
goto_flags_ranged [] k = tt
goto_flags_ranged (w ∷ ws) k = (omega arith, (omega arith, (omega arith, list_ranged flag_rules flags_are_listed (w ∷ ws) s_nil tt k tt)))

flags_ranged : (R : FlagRules) → Listed R → (ws : List FlagWord) → NodeKeeps R.list 0 (flags_under R ws) → Known R ws → Ranged (flags_part R ws)
flags_ranged R L [] n k = tt
flags_ranged R L (w ∷ ws) n k = (omega arith, (omega arith, list_ranged R L (w ∷ ws) (say class.comma s_nil) n k (omega arith, tt)))

-- of a numeric
one_each : (r : List ℕ) → OneEach (flags_under numeric_flag_rules (numeric_list r))
one_each r =
    let sizes = under_read numeric_flag_rules size_words refl (numeric_list r) (count size_words) (count_passes size_words) in
    let displays = under_read numeric_flag_rules display_words refl (numeric_list r) (count display_words) (count_passes display_words) in
    (omega (arith, sizes, one_size r), omega (arith, displays, one_display r))

numeric_flags_ranged : (r : List ℕ) → Ranged (flags_part numeric_flag_rules (numeric_list r))
unfolding range_of ranges
numeric_flags_ranged r = flags_ranged numeric_flag_rules numeric_flags_are_listed (numeric_list r) (tt, one_each r) (numeric_flags_known r)

truth_default_ranged : (d v : Bool) → Ranged (truth_default_under d v)
unfolding range_of ranges
truth_default_ranged true true = (omega arith, (omega arith, (tt, (omega arith, tt), (omega arith, tt))))
truth_default_ranged true false = (omega arith, (omega arith, (tt, (omega arith, tt), (omega arith, tt))))
truth_default_ranged false v = tt

number_default_ranged : (d : Bool) (v : ℕ) → v < 2 ^ 64 → Ranged (number_default_under d v)
unfolding range_of ranges
number_default_ranged true v h = (omega arith, (omega arith, (tt, (h, tt), (omega arith, tt))))
number_default_ranged false v h = tt

step_ranged : (v : ℕ) → v < 2 ^ 64 → Ranged (step_under v)
unfolding range_of ranges
step_ranged v h = (omega arith, (omega arith, (tt, (h, tt), (omega arith, tt))))

option_flags_ranged : (d : Bool) → Ranged (option_flags_under d)
unfolding range_of ranges
option_flags_ranged true = (omega arith, tt)
option_flags_ranged false = ((omega arith, omega arith), (omega arith, tt), tt)

pub ending_ranged : (k : ℕ) → k < class.NAME → Ranged (ending k)
ending_ranged k h = (h, (omega arith, tt))

-- ---- statements

pub subtitle_ranged : (r : List ℕ) → cell column.FIRST r < 65536 → Ranged (subtitle_under r)
unfolding range_of ranges
subtitle_ranged r hf = (omega arith, (omega arith, (omega arith, (tt, string_ranged (cell column.FIRST r) hf, (omega arith, tt)))))

pub text_ranged : (r : List ℕ) → cell column.FIRST r < 65536 → cell column.SECOND r < 65536 → Ranged (text_under r)
unfolding range_of ranges
text_ranged r hf hs = (omega arith, (omega arith, (omega arith, (tt, string_ranged (cell column.SECOND r) hs, (omega arith, (omega arith, (omega arith, (tt, string_ranged (cell column.FIRST r) hf, (omega arith, tt)))))))))

pub label_ranged : (r : List ℕ) → cell column.OWN r < 65536 → Ranged (label_under r)
unfolding range_of ranges
label_ranged r ho = (omega arith, ((omega arith, omega (arith, ho)), (omega (arith, ho), tt), (omega arith, tt)))

pub goto_ranged : (r : List ℕ) → Id (cell column.OWN r) → cell column.FIRST r < 65536 → cell column.SECOND r < 65536 → Id (cell column.A r) → Ranged (goto_under r)
unfolding range_of ranges
goto_ranged r ho hf hs ha = (omega arith, ((omega (arith, ha.0), omega (arith, ha.1)), (omega (arith, ha.1), tt), (omega arith, (tt, head_ranged r ho hf hs, (tt, goto_flags_ranged (row_flags r) (flags_known r), (omega arith, tt))))))

pub checkbox_ranged : (r : List ℕ) → Id (cell column.OWN r) → cell column.FIRST r < 65536 → cell column.SECOND r < 65536 → Ranged (checkbox_under r)
unfolding range_of ranges
checkbox_ranged r ho hf hs = (omega arith, (tt, head_ranged r ho hf hs, (omega arith, (tt, flags_ranged flag_rules flags_are_listed (row_flags r) tt (flags_known r), (tt, truth_default_ranged (has_flag flag.HAS_DEFAULT r) (eqb (cell column.D r) 1), (omega arith, (omega arith, tt)))))))

pub numeric_ranged : (r : List ℕ) → Id (cell column.OWN r) → cell column.FIRST r < 65536 → cell column.SECOND r < 65536 → cell column.A r < 2 ^ 64 → cell column.B r < 2 ^ 64 → cell column.C r < 2 ^ 64 → cell column.D r < 2 ^ 64 → Ranged (numeric_under r)
unfolding range_of ranges
numeric_ranged r ho hf hs ha hb hc hd = (omega arith, (tt, head_ranged r ho hf hs, (omega arith, (tt, numeric_flags_ranged r, (omega arith, (omega arith, (tt, (ha, tt), (omega arith, (omega arith, (omega arith, (tt, (hb, tt), (omega arith, (tt, step_ranged (cell column.C r) hc, (tt, number_default_ranged (has_flag flag.HAS_DEFAULT r) (cell column.D r) hd, (omega arith, (omega arith, tt))))))))))))))))

-- its numbers fit the size that its flags name
default_fits : (n : ℕ) (d : Bool) (v : ℕ) → v < modulus n → eqb (present d) 1 ≡ true → Keeps (bytes n) (part default_value (number_default_under d v))
default_fits n true v h e = h
default_fits n false v h e = clash cc

pub numbers_fit :
    (r : List ℕ)
    → cell column.A r < modulus (size_among (numeric_list r)) → cell column.B r < modulus (size_among (numeric_list r))
    → cell column.C r < modulus (size_among (numeric_list r)) → cell column.D r < modulus (size_among (numeric_list r))
    → NumbersFit (numeric_under r)
numbers_fit r ha hb hc hd =
    let w = size_named (numeric_under r) in
    let named : w ≡ size_among (numeric_list r) =
    part_read numeric_flag_rules size_words refl (first_of size_words NO_SIZE) (first_passes size_words NO_SIZE) (numeric_list r) in
    let fit : (v : ℕ) → v < modulus (size_among (numeric_list r)) → v < modulus w = λ v h. subst (λ n. v < modulus n) (sym named) h in
    record {
      minimum = fit (cell column.A r) ha;
      maximum = fit (cell column.B r) hb;
      step_written = refl;
      step = fit (cell column.C r) hc;
      default = default_fits w (has_flag flag.HAS_DEFAULT r) (cell column.D r) (fit (cell column.D r) hd);
    }

pub one_of_ranged : (r : List ℕ) (x : Shape) → Id (cell column.OWN r) → cell column.FIRST r < 65536 → cell column.SECOND r < 65536 → Ranged x → Ranged (one_of_under r x)
unfolding range_of ranges
one_of_ranged r x ho hf hs hx = (omega arith, (tt, head_ranged r ho hf hs, (omega arith, (tt, flags_ranged flag_rules flags_are_listed (row_flags r) tt (flags_known r), hx))))

pub option_ranged : (r : List ℕ) → cell column.FIRST r < 65536 → cell column.A r < 2 ^ 64 → Ranged (option_under r)
unfolding range_of ranges
option_ranged r hf ha = (omega arith, (omega arith, (omega arith, (tt, string_ranged (cell column.FIRST r) hf, (omega arith, (omega arith, (omega arith, ((omega arith, omega (arith, ha)), (ha, tt), (omega arith, (omega arith, (omega arith, (tt, option_flags_ranged (has_flag flag.OPTION_DEFAULT r), (omega arith, tt)))))))))))))

pub form_ranged : (r : List ℕ) (x : Shape) → Id (cell column.OWN r) → cell column.FIRST r < 65536 → Ranged x → Ranged (form_under r x)
unfolding range_of ranges
form_ranged r x ho hf hx = (omega arith, (omega arith, (omega arith, ((omega (arith, ho.0), omega (arith, ho.1)), (omega (arith, ho.1), tt), (omega arith, (omega arith, (omega arith, (tt, string_ranged (cell column.FIRST r) hf, (omega arith, hx)))))))))

eight_ranged : (r : List ℕ) → Ranged (eight_under r)
unfolding range_of ranges
eight_ranged r = (omega arith, ((omega arith, omega arith, omega arith), tt), (omega arith, (omega arith, ((omega arith, omega arith, omega arith), tt), (omega arith, (omega arith, ((omega arith, omega arith, omega arith), tt), (omega arith, (omega arith, ((omega arith, omega arith, omega arith), tt), (omega arith, (omega arith, ((omega arith, omega arith, omega arith), tt), (omega arith, (omega arith, ((omega arith, omega arith, omega arith), tt), (omega arith, (omega arith, ((omega arith, omega arith, omega arith), tt), (omega arith, (omega arith, ((omega arith, omega arith, omega arith), tt), tt)))))))))))))))

guid_ranged : (r : List ℕ) → cell column.A r < 2 ^ 64 → Ranged (guid_under r)
unfolding range_of ranges
guid_ranged r h = (omega arith, (omega arith, ((omega arith, omega arith, omega arith), tt), (omega arith, (omega arith, ((omega arith, omega arith, omega arith), tt), (omega arith, (omega arith, ((omega arith, omega arith, omega arith), tt), (omega arith, (tt, (omega arith, (tt, eight_ranged r, (omega arith, (omega arith, tt)))), tt))))))))

pub form_set_ranged : (r : List ℕ) (x : Shape) → cell column.FIRST r < 65536 → cell column.SECOND r < 65536 → cell column.A r < 2 ^ 64 → Ranged x → Ranged (form_set_under r x)
unfolding range_of ranges
form_set_ranged r x hf hs ha hx = (omega arith, (omega arith, (omega arith, (tt, guid_ranged r ha, (omega arith, (omega arith, (omega arith, (tt, string_ranged (cell column.FIRST r) hf, (omega arith, (omega arith, (omega arith, (tt, string_ranged (cell column.SECOND r) hs, (omega arith, hx)))))))))))))

pub condition_ranged : (k : ℕ) (e : Formula) (x : Shape) → k < class.NAME → Fine e → Ranged x → Ranged (condition_under k e x)
condition_ranged k e x hk h hx = (hk, (formula_ranged e h).whole 9 (omega arith) (say class.semicolon x) (omega arith, hx))

pub rule_ranged : (r : List ℕ) (e : Formula) → cell column.OWN r < 2 ^ 64 → Fine e → Ranged (rule_under r e)
rule_ranged r e ho h = (omega arith, (ho, (omega arith, (formula_ranged e h).whole 9 (omega arith) (ending class.«endrule») (ending_ranged class.«endrule» (omega arith)))))
