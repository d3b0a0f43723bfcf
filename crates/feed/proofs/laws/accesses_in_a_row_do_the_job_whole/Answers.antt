use Rattle.feed.proofs.Courses.{course}
use Rattle.feed.proofs.laws.accesses_in_a_row_do_the_job_whole.Goals as goal

pub returns : goal.returns
returns c = course
