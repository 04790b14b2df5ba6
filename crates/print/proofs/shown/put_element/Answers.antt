-- `print::shown::put_element` meets its contract.
-- Assumes nothing.
use Rattle.print.specs.Phrase.{element_words}
use Rattle.spellings.proofs.Printing.{as_words}
use Rattle.print.proofs.PhraseLaws.{other_element}
use Rattle.print.proofs.shown.put_element.Goals as goal

pub returns-in-79 : goal.returns-in-79
unfolding element_words
returns-in-79 c = rw c.in-79.is c.rule_name.ensures

pub returns-in-132 : goal.returns-in-132
unfolding element_words
returns-in-132 c = rw c.in-132.is c.put_option_flags.ensures

pub returns-in-134 : goal.returns-in-134
unfolding element_words
returns-in-134 c = rw c.in-134.is c.put_truth.ensures

pub returns-in-135 : goal.returns-in-135
unfolding element_words
returns-in-135 c = rw c.in-135.is c.put_flags.ensures

pub returns-in-137 : goal.returns-in-137
unfolding element_words
returns-in-137 c = rw c.in-137.is c.hex.ensures

pub returns-in-138 : goal.returns-in-138
unfolding element_words
returns-in-138 c = rw c.in-138.is c.hex-in-138.ensures

pub returns-in-139 : goal.returns-in-139
unfolding element_words
returns-in-139 c = rw c.in-139.is c.hex-in-139.ensures

pub returns-in_default : goal.returns-in_default
returns-in_default c = as_words (other_element _ _ c.in_default.in_default-own.rest) c.decimal.ensures
