-- `requests::make::make_one` meets its contract: each need is one lemma of proofs/Makes.antt.
-- Assumes nothing.
use Rattle.requests.proofs.Makes.{word_small, expression-there, block-asks, block-makes}
use Rattle.requests.proofs.make.make_one.Goals as goal

pub job_of-job-requires : goal.job_of-job-requires
job_of-job-requires c = word_small _ _ c.requires.0 c.requires.1 c.requires.2

pub expression_at-root-requires : goal.expression_at-root-requires
expression_at-root-requires c = expression-there _ _ c.requires.0 c.requires.1 c.requires.2 c.job_of-job.result c.job_of-job.ensures

pub block-requires : goal.block-requires
block-requires c = (c.requires.0, block-asks _ _ c.requires.0 c.requires.1 c.requires.2 c.job_of-job.result c.job_of-job.ensures c.expression_at-root.result c.expression_at-root.ensures c.requires.3)

pub returns : goal.returns
returns c = λ b y a o. block-makes _ _ b y a c.job_of-job.result c.job_of-job.ensures c.expression_at-root.result c.expression_at-root.ensures (c.block.ensures b (block-asks _ _ b y a c.job_of-job.result c.job_of-job.ensures c.expression_at-root.result c.expression_at-root.ensures o))
