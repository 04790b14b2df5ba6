-- A source in which a ruleref's rule stands in another form, as W-203 says it, from its bytes on, by computation.
-- Assumes nothing.
use mathlib.Core.Path.{◌≡◌, refl}
use mathlib.Core.Logic.{◌≢◌}
use mathlib.Core.List.{List, [], ◌∷◌}
use Prim.Native.Nat.{ℕ}
use native.Mathlib.Omega.{arith}
use Rattle.lexemes.specs.Words.{run, all, same, same_word}
use Rattle.rows.specs.Codes as code
use Rattle.answers.specs.Rows.{Draft, without_marks}
use Rattle.answers.specs.Forms.{directly, within, Stray}
use Rattle.answers.proofs.Computed.{drafts_read}
use Rattle.answers.proofs.Decided.{two_forms}

abbrev apart : List ℕ
apart = two_forms "rule A,1 endrule;" "suppressif ruleref(A);endif;"

-- the form set; form 1 in row 1, with rule A in row 2; form 2 in row 4, with a condition in row 5 and its ruleref in row 6
abbrev drafts : List Draft
drafts =
    without_marks (0x0E ∷ 0 ∷ 0 ∷ 2 ∷ 3 ∷ 0 ∷ 4295098371 ∷ 289644378304612875 ∷ 0 ∷ 0 ∷ 0 ∷ 0 ∷ 0 ∷ [])
    ∷ record { row = 0x01 ∷ 0 ∷ 1 ∷ 4 ∷ 0 ∷ 0 ∷ 0 ∷ 0 ∷ 0 ∷ 0 ∷ 0 ∷ 104 ∷ 0 ∷ []; own_at = 117; limit_at = 0; default_at = 0 }
    ∷ without_marks (0x18 ∷ 1 ∷ 1 ∷ 0 ∷ 0 ∷ 0 ∷ 0 ∷ 0 ∷ 0 ∷ 0 ∷ 146 ∷ 140 ∷ 0 ∷ [])
    ∷ without_marks (0x45 ∷ 2 ∷ 0 ∷ 0 ∷ 0 ∷ 0 ∷ 1 ∷ 0 ∷ 0 ∷ 0 ∷ 0 ∷ 147 ∷ 0 ∷ [])
    ∷ record { row = 0x01 ∷ 0 ∷ 2 ∷ 4 ∷ 0 ∷ 0 ∷ 0 ∷ 0 ∷ 0 ∷ 0 ∷ 0 ∷ 165 ∷ 0 ∷ []; own_at = 178; limit_at = 0; default_at = 0 }
    ∷ without_marks (0x0A ∷ 4 ∷ 0 ∷ 0 ∷ 0 ∷ 0 ∷ 0 ∷ 0 ∷ 0 ∷ 0 ∷ 0 ∷ 201 ∷ 0 ∷ [])
    ∷ record { row = 0x3F ∷ 5 ∷ 0 ∷ 0 ∷ 0 ∷ 0 ∷ 0 ∷ 0 ∷ 0 ∷ 0 ∷ 0 ∷ 212 ∷ 0 ∷ []; own_at = 221; limit_at = 0; default_at = 0 }
    ∷ []

drafts_are : drafts_read apart ≡ drafts
unfolding drafts_read
drafts_are = refl

condition_no_form : code.SUPPRESS_IF ≢ code.FORM
condition_no_form e = omega arith

stray : Stray apart drafts 6
unfolding run all same same_word
stray =
    record {
      is_reference = refl;
      rule = 2;
      inside = omega arith;
      names_it = refl;
      form = 4;
      other = 1;
      apart = λ e. omega arith;
      reference_stands = within condition_no_form (directly refl refl);
      rule_stands = directly refl refl;
    }

pub stray_example : Stray apart (drafts_read apart) 6
stray_example = rw drafts_are stray
