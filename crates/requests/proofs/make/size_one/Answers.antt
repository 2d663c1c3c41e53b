-- `requests::make::size_one` meets its contract: each need is one lemma of proofs/Makes.antt.
-- Assumes nothing.
use Rattle.requests.proofs.Makes.{word_small, expression-there, root-there, size_is}
use Rattle.requests.proofs.make.size_one.Goals as goal

pub job_of-job-requires : goal.job_of-job-requires
job_of-job-requires c = word_small _ _ c.requires.0 c.requires.1 c.requires.2

pub expression_at-root-requires : goal.expression_at-root-requires
expression_at-root-requires c = expression-there _ _ c.requires.0 c.requires.1 c.requires.2 c.job_of-job.result c.job_of-job.ensures

pub block_size-requires : goal.block_size-requires
block_size-requires c = (c.requires.0, c.requires.2.world.pool, root-there _ _ c.requires.0 c.requires.1 c.requires.2 c.job_of-job.result c.job_of-job.ensures c.expression_at-root.result c.expression_at-root.ensures)

pub returns : goal.returns
returns c = λ b y a. size_is _ _ b y a c.job_of-job.result c.job_of-job.ensures c.expression_at-root.result c.expression_at-root.ensures (c.block_size.ensures b a.world.pool (root-there _ _ b y a c.job_of-job.result c.job_of-job.ensures c.expression_at-root.result c.expression_at-root.ensures))
