-- Wrong definitions break the laws.
use Rattle.hk_laws.proofs.Refusing
use Rattle.hk_laws.proofs.RefusingReadings
use Rattle.hk_laws.proofs.wrong.wrong_definitions_break_laws.Goals as goal

pub returns-clause-no_tags : goal.returns-clause-no_tags
returns-clause-no_tags c = Refusing.nothing_is_a_tag

pub returns-clause-no_comments : goal.returns-clause-no_comments
returns-clause-no_comments c = Refusing.no_comments

pub returns-clause-no_raw_text : goal.returns-clause-no_raw_text
returns-clause-no_raw_text c = Refusing.no_raw_text

pub returns-clause-no_src : goal.returns-clause-no_src
returns-clause-no_src c = Refusing.src_is_no_link

pub returns-clause-no_case : goal.returns-clause-no_case
returns-clause-no_case c = Refusing.case_matters

pub returns-clause-no_places : goal.returns-clause-no_places
returns-clause-no_places c = Refusing.places_zero

pub returns-clause-no_false : goal.returns-clause-no_false
returns-clause-no_false c = RefusingReadings.false_is_no_version

pub returns-clause-no_dot : goal.returns-clause-no_dot
returns-clause-no_dot c = RefusingReadings.dot_is_extension

pub returns-clause-no_body : goal.returns-clause-no_body
returns-clause-no_body c = RefusingReadings.body_of_created

pub returns-clause-no_zero : goal.returns-clause-no_zero
returns-clause-no_zero c = RefusingReadings.none_is_count

pub returns-clause-no_turned : goal.returns-clause-no_turned
returns-clause-no_turned c = RefusingReadings.recent_is_chronological

pub returns-clause-no_unused : goal.returns-clause-no_unused
returns-clause-no_unused c = RefusingReadings.unused_pattern

pub returns-clause-no_later : goal.returns-clause-no_later
returns-clause-no_later c = RefusingReadings.turned_patterns

pub returns-clause-no_empty : goal.returns-clause-no_empty
returns-clause-no_empty c = RefusingReadings.no_steps

pub returns-clause-no_misses : goal.returns-clause-no_misses
returns-clause-no_misses c = Refusing.no_faults
