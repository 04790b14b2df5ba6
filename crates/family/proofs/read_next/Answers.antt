-- `family::read_next` meets its contract: with as many rows as bytes a source is read as with all rows that are left.
-- Assumes nothing.
use Prim.Native.Nat.{ℕ, ◌+◌, ◌-◌, min}
use mathlib.Core.Path.{ap, ◌∙◌}
use borrow.Author.Rules.{rules}
use Rattle.rows.specs.Table.{whole_rows}
use Rattle.lent.specs.Numbers.{in_lent, reply_numbers}
use lib.ListN.{length}
use Rattle.replies.specs.Replies.{Reply}
use Rattle.family.proofs.NextLaws.{few_rows, next_reply, next_count, next_table}
use Rattle.family.proofs.read_next.Goals as goal

pub overflow_add-result : goal.overflow_add-result
overflow_add-result c =
    let args = c.args in
    let pre = c.requires in
    let room = c in
    let whole = room.whole_rows.ensures in
    let smaller = room.min.ensures ∙ ap (λ (w : ℕ). min (length args.src.now) (w - args.rows)) whole in
    let read = c.read_over-answer.ensures in
    let put = c.put_taken.ensures in
    search (rules, few_rows args.src.now (whole_rows args.table.now - args.rows), next_count args.src.now pre smaller read.result_value put.value)

pub returns : goal.returns
returns c =
    let args = c.args in
    let pre = c.requires in
    let room = c in
    let whole = room.whole_rows.ensures in
    let smaller = room.min.ensures ∙ ap (λ (w : ℕ). min (length args.src.now) (w - args.rows)) whole in
    let read = c.read_over-answer.ensures in
    let put = c.put_taken.ensures in record { value = ap (λ (n : ℕ). args.rows + n) (next_count args.src.now pre smaller read.result_value put.value); table_after = next_table args.src.now pre smaller read.table_after; out_after = put.out_after ∙ ap (λ (r : Reply). in_lent (length args.out.now) (reply_numbers r)) (next_reply args.src.now pre smaller read.result_value) }
