-- What resolving answers, and what the table and the output hold, after each answer of reading.
-- Assumes nothing.
use Prim.Native.Nat.{ℕ, ◌-◌, ◌^◌, ◌<◌}
use mathlib.Core.Path.{◌≡◌, sym, ap, ◌∙◌}
use mathlib.Core.Logic.{◌≢◌}
use mathlib.Core.Bool.{true, false, cond}
use mathlib.Core.List.{List, ◌++◌}
use lib.Dec.{eqb}
use lib.ListN.{length, get_or, replicate}
use borrow.Author.Tests.{ne_eqb}
use Rattle.rows.specs.Table.{cleared}
use Rattle.rows.specs.Rows.{laid}
use Rattle.rows.proofs.ClearLaws.{cleared_whole}
use Rattle.answers.specs.Answer.{Answer, accepts}
use Rattle.answers.specs.WholeAnswer.{read_answer, read_table, rows_of}
use Rattle.answers.specs.Resolution.{Resolution, text_of_source, resolved_into, resolution, resolved_table, resolved_output}
use Rattle.replies.specs.Replies.{Reply, accepting, read_reply, resolve_replied, resolve_reply}
use Rattle.replies.proofs.Laws.{accepting_only}
use Rattle.read.specs.declared.Refusal as read
use Rattle.read.specs.Answers as read_answers
use Rattle.read.proofs.AcceptedRows.{no_rows_refused, short_refused, refusal_refused}
use Rattle.std.specs.Prelude.{Result, Err}
use Rattle.text.specs.declared.Resolved.{Resolved}
use Rattle.text.specs.declared.Refusal.{Refusal}
use Rattle.text.specs.declared.Refusal.TheVariants.{Reading}
use Rattle.text.specs.Answers.{told, RowsPrinted}
use Rattle.text.proofs.AcceptedText.{accepted_text}

-- the answer, the table and the output
abbrev pub Resolves : List ℕ → ℕ → ℕ → Reply → List ℕ → List ℕ → Type 0
Resolves s n m r t o = (r ≡ resolve_reply s n m) × ((t ≡ resolved_table s n m) × (o ≡ resolved_output s n m))

-- ---- accepted

-- by reading's answer, where so many bytes are lent and needed
abbrev answered : ℕ → ℕ → Answer → Resolution
answered m need a =
    elim (eqb a.number 0) [
      | true ↦ resolved_into m need a
      | false ↦ record { number = a.number; place = a.place; rows = a.rows; free = a.free; bytes = 0 }
    ]

abbrev table_for : List ℕ → ℕ → ℕ → List ℕ
table_for s n k = cond (eqb k 0) (laid (rows_of s) n) (replicate n 0)

accepted_resolution : (s : List ℕ) (n m count free : ℕ) → accepts count free ≡ read_answer s n → resolution s n m ≡ resolved_into m (length (text_of_source s)) (accepts count free)
unfolding resolution
accepted_resolution s n m count free e = ap (answered m (length (text_of_source s))) (sym e)

accepted_table : (s : List ℕ) (n count free : ℕ) → accepts count free ≡ read_answer s n → read_table s n ≡ laid (rows_of s) n
unfolding read_table
accepted_table s n count free e = ap (λ (a : Answer). table_for s n a.number) (sym e)

pub resolved :
    (s : List ℕ) (n : ℕ) {count free : ℕ} {t o t' o' : List ℕ} {r : Result Resolved Refusal}
    → accepting count free 0 ≡ read_reply s n → t ≡ read_table s n → length t ≡ n → ((i : ℕ) → get_or t i 0 < 2 ^ 64)
    → RowsPrinted t count free o r t' o' → Resolves s n (length o) (told r) t' o'
unfolding resolved_table resolved_output
resolved s n {count} {free} {t} {o} {t'} {o'} {r} reply f l small p =
    let e : accepts count free ≡ read_answer s n = accepting_only s reply in
    let both = accepted_text s n count free t e f small in
    let resolves = accepted_resolution s n (length o) count free e in
    let answer : told r ≡ resolve_reply s n (length o) = p.answer (text_of_source s) both.0 both.1 s ∙ sym (ap (resolve_replied s) resolves) in (
      answer,
      (
        p.table (text_of_source s) both.0 both.1 ∙ ap (λ (k : ℕ). cond (eqb k 0) t (replicate (length t) 0)) (ap (λ (x : Reply). x.number) answer) ∙ rw (l, f ∙ accepted_table s n count free e),
        p.output (text_of_source s) both.0 both.1 ∙ ap (λ (x : Reply). cond (eqb x.number 0) (text_of_source s ++ replicate (length o - length (text_of_source s)) 0) (replicate (length o) 0)) answer,
      ),
    )

-- ---- refused

refused_resolution :
    (s : List ℕ) (n m : ℕ) → (read_answer s n).number ≢ 0
    → resolution s n m ≡ record { number = (read_answer s n).number; place = (read_answer s n).place; rows = (read_answer s n).rows; free = (read_answer s n).free; bytes = 0 }
unfolding resolution
refused_resolution s n m h = rw (ne_eqb (read_answer s n).number 0 h, resolution)

pub unresolved :
    (s : List ℕ) (n : ℕ) (o : List ℕ) {t o' : List ℕ} {r : Reply}
    → r ≡ read_reply s n → (read_answer s n).number ≢ 0 → t ≡ read_table s n → o' ≡ cleared o 0 → Resolves s n (length o) r t o'
unfolding read_table resolved_table resolved_output
unresolved s n o e h f g =
    let answer = refused_resolution s n (length o) h in
    let number : (read_answer s n).number ≡ (resolution s n (length o)).number = sym (ap (λ (x : Resolution). x.number) answer) in (
      e ∙ sym (ap (resolve_replied s) answer),
      (f ∙ ap (table_for s n) number, g ∙ cleared_whole o ∙ rw (answer, ne_eqb (read_answer s n).number 0 h)),
    )

-- a refusal has no rows, as no accepted source has
pub unresolved_refused :
    (s : List ℕ) (n : ℕ) (o : List ℕ) {t o' : List ℕ} {r : Reply}
    → r ≡ read_reply s n → r.rows ≡ 0 → t ≡ read_table s n → o' ≡ cleared o 0 → Resolves s n (length o) r t o'
unresolved_refused s n o e none f g = unresolved s n o e (no_rows_refused s n e none) f g

pub unresolved_short :
    (s : List ℕ) (n : ℕ) (o : List ℕ) {t o' : List ℕ} {r : Reply}
    → r ≡ read_reply s n → r.number ≡ 6 → t ≡ read_table s n → o' ≡ cleared o 0 → Resolves s n (length o) r t o'
unresolved_short s n o e six f g =
    unresolved s n o e (short_refused s n e six) f g

-- a refusal of reading
pub unread :
    (s : List ℕ) (n : ℕ) (o : List ℕ) (d : read.Refusal) {t o' : List ℕ}
    → read_answers.told (Err d) ≡ read_reply s n → t ≡ read_table s n → o' ≡ cleared o 0 → Resolves s n (length o) (told (Err (Reading d))) t o'
unread s n o d e f g = unresolved s n o e (refusal_refused s n d e) f g
