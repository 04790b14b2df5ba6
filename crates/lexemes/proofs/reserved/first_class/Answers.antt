-- `lexemes::reserved::first_class` meets its contract: each arm by computation, and the last one since no word has another letter.
use mathlib.Core.Path.{refl}
use mathlib.Core.List.{List}
use Prim.Native.Nat.{ℕ}
use Rattle.lexemes.specs.Lexemes.{bytes}
use Rattle.lexemes.proofs.Missed.{letter_missed}
use Rattle.lexemes.specs.Lexemes.{reserved}
use Rattle.lexemes.specs.Search.{letter_place}
use Rattle.lexemes.specs.Search.{letter_start}
use Rattle.lexemes.proofs.reserved.first_class.Goals as goal

letters : List ℕ
letters = bytes "ADFINORSTUZcdefghlmnopqrstv"

pub returns-in-65 : goal.returns-in-65
unfolding letters reserved letter_place letter_start
returns-in-65 c = rw c.in-65.is

pub returns-in-68 : goal.returns-in-68
unfolding letters reserved letter_place letter_start
returns-in-68 c = rw c.in-68.is

pub returns-in-70 : goal.returns-in-70
unfolding letters reserved letter_place letter_start
returns-in-70 c = rw c.in-70.is

pub returns-in-73 : goal.returns-in-73
unfolding letters reserved letter_place letter_start
returns-in-73 c = rw c.in-73.is

pub returns-in-78 : goal.returns-in-78
unfolding letters reserved letter_place letter_start
returns-in-78 c = rw c.in-78.is

pub returns-in-79 : goal.returns-in-79
unfolding letters reserved letter_place letter_start
returns-in-79 c = rw c.in-79.is

pub returns-in-82 : goal.returns-in-82
unfolding letters reserved letter_place letter_start
returns-in-82 c = rw c.in-82.is

pub returns-in-83 : goal.returns-in-83
unfolding letters reserved letter_place letter_start
returns-in-83 c = rw c.in-83.is

pub returns-in-84 : goal.returns-in-84
unfolding letters reserved letter_place letter_start
returns-in-84 c = rw c.in-84.is

pub returns-in-85 : goal.returns-in-85
unfolding letters reserved letter_place letter_start
returns-in-85 c = rw c.in-85.is

pub returns-in-90 : goal.returns-in-90
unfolding letters reserved letter_place letter_start
returns-in-90 c = rw c.in-90.is

pub returns-in-99 : goal.returns-in-99
unfolding letters reserved letter_place letter_start
returns-in-99 c = rw c.in-99.is

pub returns-in-100 : goal.returns-in-100
unfolding letters reserved letter_place letter_start
returns-in-100 c = rw c.in-100.is

pub returns-in-101 : goal.returns-in-101
unfolding letters reserved letter_place letter_start
returns-in-101 c = rw c.in-101.is

pub returns-in-102 : goal.returns-in-102
unfolding letters reserved letter_place letter_start
returns-in-102 c = rw c.in-102.is

pub returns-in-103 : goal.returns-in-103
unfolding letters reserved letter_place letter_start
returns-in-103 c = rw c.in-103.is

pub returns-in-104 : goal.returns-in-104
unfolding letters reserved letter_place letter_start
returns-in-104 c = rw c.in-104.is

pub returns-in-108 : goal.returns-in-108
unfolding letters reserved letter_place letter_start
returns-in-108 c = rw c.in-108.is

pub returns-in-109 : goal.returns-in-109
unfolding letters reserved letter_place letter_start
returns-in-109 c = rw c.in-109.is

pub returns-in-110 : goal.returns-in-110
unfolding letters reserved letter_place letter_start
returns-in-110 c = rw c.in-110.is

pub returns-in-111 : goal.returns-in-111
unfolding letters reserved letter_place letter_start
returns-in-111 c = rw c.in-111.is

pub returns-in-112 : goal.returns-in-112
unfolding letters reserved letter_place letter_start
returns-in-112 c = rw c.in-112.is

pub returns-in-113 : goal.returns-in-113
unfolding letters reserved letter_place letter_start
returns-in-113 c = rw c.in-113.is

pub returns-in-114 : goal.returns-in-114
unfolding letters reserved letter_place letter_start
returns-in-114 c = rw c.in-114.is

pub returns-in-115 : goal.returns-in-115
unfolding letters reserved letter_place letter_start
returns-in-115 c = rw c.in-115.is

pub returns-in-116 : goal.returns-in-116
unfolding letters reserved letter_place letter_start
returns-in-116 c = rw c.in-116.is

pub returns-in-118 : goal.returns-in-118
unfolding letters reserved letter_place letter_start
returns-in-118 c = rw c.in-118.is

pub returns-in_default : goal.returns-in_default
unfolding letters reserved letter_place letter_start
returns-in_default c = rw (letter_missed c.args.letter letters refl c.in_default.in_default-own.rest)
