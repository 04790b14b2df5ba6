-- The answer, the table and the output after printing.
-- Assumes nothing.
use Prim.Native.Nat.{ℕ, ◌+◌, ◌-◌, ◌≤◌, ◌<◌}
use native.Mathlib.Omega.{arith}
use mathlib.Core.Path.{◌≡◌, sym, ap, ◌∙◌}
use mathlib.Core.List.{List, ◌++◌}
use lib.ListN.{length, drop, replicate}
use lib.Seq.{sets, sets-eq, take-append_seam, length-sets}
use borrow.Author.Tests.{lt-ltb, le-ltb}
use Rattle.rows.specs.Table.{cleared}
use Rattle.rows.proofs.ClearLaws.{cleared_whole}
use Rattle.answers.specs.Answer as answers
use Rattle.answers.specs.Answer.{accepts}
use Rattle.answers.specs.Resolution.{room, resolved_into}
use Rattle.replies.specs.Replies.{position_of, resolve_replied}
use Rattle.spellings.specs.declared.output.Output.{Output}
use Rattle.spellings.specs.Output.{MOST}
use Rattle.spellings.proofs.Outputs.{few_bytes}
use Rattle.std.specs.Prelude.{Ok, Err}
use Rattle.text.specs.declared.Refusal.TheVariants.{TooLong}
use Rattle.text.specs.Printing.{TextPrinted}
use Rattle.text.specs.Answers.{told, HasText, RowsPrinted}

-- a text that fits, and zeros past it
fits_cleared : (o text : List ℕ) → length text ≤ length o → cleared (sets o 0 text) (length text) ≡ text ++ replicate (length o - length text) 0
unfolding cleared
fits_cleared o text h =
    rw (length-sets o 0 text, sets-eq text o 0 (omega arith)) (ap (λ (l : List ℕ). l ++ replicate (length o - length text) 0) (take-append_seam text (drop (0 + length text) o)))

module _ (s : List ℕ) (m need : ℕ) where
  into_long : (a : answers.Answer) → room m < need → resolve_replied s (resolved_into m need a) ≡ told (Err (TooLong need))
  unfolding position_of
  into_long a h = rw (lt-ltb (room m) need h, resolved_into)

  into_room : (rows free : ℕ) → need ≤ room m → resolve_replied s (resolved_into m need (accepts rows free)) ≡ told (Ok (record { rows = rows; free = free; bytes = need }))
  unfolding position_of
  into_room rows free h = rw (le-ltb (room m) need h, resolved_into)

-- the output o, of which nothing is written yet, with the text
module _ {t : List ℕ} {count : ℕ} {o o₁ : Output} (none : o.at ≡ 0) (p : TextPrinted t count o o₁) where
  -- how many bytes, and where they are
  written : (text : List ℕ) → HasText t count text → length text ≤ MOST → (o₁.at ≡ length text) × (o₁.bytes.now ≡ sets o.bytes.now 0 text)
  written text h l =
      let w = rw (none, ← h.is) at ((p.prints h.found h.place h.forms h.end h.row h.laid h.stops).prints (omega (arith, none, rw h.is at l))).puts in
      (omega (arith, w.end), w.stored ∙ few_bytes o.bytes.now 0 text (omega arith))

  -- `out` is then lent back
  module _ (out : List ℕ) (n : length out ≡ length o.bytes.now) where
    pub too_long : {free : ℕ} {t₂ o₂ : List ℕ} → room (length out) < o₁.at → t₂ ≡ cleared t 0 → o₂ ≡ cleared out 0 → RowsPrinted t count free o.bytes.now (Err (TooLong o₁.at)) t₂ o₂
    too_long {free = free} h a b =
        record {
          answer = λ text x l s.
              let w = written text x l in
              sym (rw (← w.0) (into_long s (length o.bytes.now) o₁.at (accepts count free) (rw n at h)));
          table = λ text x l. a ∙ cleared_whole t;
          output = λ text x l. b ∙ cleared_whole out ∙ rw n;
        }

    pub long_enough : {free : ℕ} {t₂ o₂ : List ℕ} → o₁.at ≤ room (length out) → t₂ ≡ t → o₂ ≡ cleared out o₁.at → out ≡ o₁.bytes.now
        → RowsPrinted t count free o.bytes.now (Ok (record { rows = count; free = free; bytes = o₁.at })) t₂ o₂
    long_enough {free = free} h a b e =
        record {
          answer = λ text x l s.
              let w = written text x l in
              sym (rw (← w.0) (into_room s (length o.bytes.now) o₁.at count free (rw n at h)));
          table = λ text x l. a;
          output = λ text x l.
              let w = written text x l in
              let f : length text ≤ length o.bytes.now = omega (arith, w.0) in
              b ∙ rw (e, w.0, w.1) (fits_cleared o.bytes.now text f);
        }
