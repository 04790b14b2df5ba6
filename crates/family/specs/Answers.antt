-- What reading a family answers (document 02, W-206).
-- Assumes nothing.
use Rattle.std.specs.Prelude.{Result}
use Rattle.replies.specs.Replies.{Reply, answered}
use Rattle.read.specs.declared.Accepted.{Accepted}
use Rattle.read.specs.Answers.{accepted_told}
use Rattle.family.specs.declared.BadFamily.{BadFamily}
use Rattle.family.specs.Family.{not_read}

-- 17
abbrev pub not_read_told : BadFamily → Reply
not_read_told e = not_read

abbrev pub told : Result Accepted BadFamily → Reply
told = answered accepted_told not_read_told
