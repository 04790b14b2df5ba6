-- Number and values of each case of showing's answer (document 02, W-202): "reading's own; .. 15 .., place the first such, from 0; then 30, .. place 0".
-- Assumes nothing.
use Rattle.std.specs.Prelude.{Result}
use Rattle.answers.specs.Answer.{refuses}
use Rattle.replies.specs.Replies.{Reply, answered}
use Rattle.read.specs.declared.Accepted.{Accepted}
use Rattle.read.specs.Answers as reading
use Rattle.read.specs.Answers.{accepted_told}
use Rattle.show.specs.ShownRows.{unplaced}
use Rattle.show.specs.declared.Refusal.{Refusal}
use Rattle.show.specs.declared.Refusal.TheVariants.{Reading, BadAnswer, TooFewBytes}

abbrev pub refusal_told : Refusal → Reply
refusal_told (Reading refusal) = reading.refusal_told refusal
refusal_told (BadAnswer place) = unplaced (refuses 15 place)
refusal_told TooFewBytes = unplaced (refuses 30 0)

abbrev pub told : Result Accepted Refusal → Reply
told = answered accepted_told refusal_told
