-- `codegen::build::build_context` meets its contract: each need is one lemma of proofs/Builds.antt.
-- Assumes nothing.
use mathlib.Core.Path.{◌∙◌, ap}
use Rattle.builds.specs.Marking.{release}
use Rattle.builds.specs.declared.build.Which.TheVariants as which
use Rattle.codegen.proofs.Builds.{blocks-ask, list-small, copy-first, copy_some, store_asks, first-over, i-over, last-over, all-built}
use Rattle.codegen.proofs.build.build_context.Goals as goal

pub list_size-without_plain-requires : goal.list_size-without_plain-requires
list_size-without_plain-requires c = blocks-ask c.args.expressions.now c.args.list.now c.requires c.load_blocks.ensures c.blocks_of-blocks.ensures c.steps_of-all.ensures

pub list_size-without_any-requires : goal.list_size-without_any-requires
list_size-without_any-requires c = blocks-ask c.args.expressions.now c.args.list.now c.requires c.load_blocks.ensures c.blocks_of-blocks.ensures c.steps_of-all.ensures

pub returns-then-not-list_fits : goal.returns-then-not-list_fits
returns-then-not-list_fits c = λ n b p q. rw c.into.ensures (first-over _ _ c.requires c.load_blocks.ensures c.blocks_of-blocks.ensures c.steps_of-all.ensures (c.list_size-without_plain.ensures _) (c.list_size-without_any.ensures _) _ n b p q c.list_fits.ensures c.if-not-list_fits.true)

pub list_fits-requires-2 : goal.list_fits-requires-2
list_fits-requires-2 c = list-small _ _ c.requires c.load_blocks.ensures c.blocks_of-blocks.ensures c.steps_of-all.ensures which.I (c.list_size-without_plain.ensures _)

pub returns-then-not-list_fits-2 : goal.returns-then-not-list_fits-2
returns-then-not-list_fits-2 c = λ n b p q. rw c.into-then-not-list_fits-2.ensures (i-over _ _ c.requires c.load_blocks.ensures c.blocks_of-blocks.ensures c.steps_of-all.ensures (c.list_size-without_plain.ensures _) (c.list_size-without_any.ensures _) _ n b p q c.list_fits.ensures c.if-not-list_fits.false c.list_fits-2.ensures c.if-not-list_fits-2.true)

pub list_fits-requires-3 : goal.list_fits-requires-3
list_fits-requires-3 c = list-small _ _ c.requires c.load_blocks.ensures c.blocks_of-blocks.ensures c.steps_of-all.ensures which.Last (c.list_size-without_any.ensures _)

pub returns-then-not-list_fits-3 : goal.returns-then-not-list_fits-3
returns-then-not-list_fits-3 c = λ n b p q. rw c.into-then-not-list_fits-3.ensures (last-over _ _ c.requires c.load_blocks.ensures c.blocks_of-blocks.ensures c.steps_of-all.ensures (c.list_size-without_plain.ensures _) (c.list_size-without_any.ensures _) _ n b p q c.list_fits.ensures c.if-not-list_fits.false c.list_fits-2.ensures c.if-not-list_fits-2.false c.list_fits-3.ensures c.if-not-list_fits-3.true)

pub copy_list-requires : goal.copy_list-requires
copy_list-requires c = copy-first _ _ c.requires c.load_blocks.ensures c.blocks_of-blocks.ensures c.steps_of-all.ensures c.list_fits.ensures c.if-not-list_fits.false

pub copy_list-requires-2 : goal.copy_list-requires-2
copy_list-requires-2 c = copy_some _ _ c.requires c.load_blocks.ensures c.blocks_of-blocks.ensures c.steps_of-all.ensures which.I (c.list_size-without_plain.ensures _) c.list_fits-2.ensures c.if-not-list_fits-2.false

pub copy_list-requires-3 : goal.copy_list-requires-3
copy_list-requires-3 c = copy_some _ _ c.requires c.load_blocks.ensures c.blocks_of-blocks.ensures c.steps_of-all.ensures which.Last (c.list_size-without_any.ensures _) c.list_fits-3.ensures c.if-not-list_fits-3.false

pub mark_released-requires : goal.mark_released-requires
mark_released-requires c = c.requires.few

pub store-requires : goal.store-requires
store-requires c = store_asks _ _ c.requires c.load_blocks.ensures c.blocks_of-blocks.ensures c.steps_of-all.ensures c.temporaries_of-t.ensures (c.mark_released.ensures ∙ ap (release _ _) c.load_marks.ensures)

pub returns : goal.returns
returns c = λ n b p q. all-built _ _ c.requires c.load_blocks.ensures c.blocks_of-blocks.ensures c.steps_of-all.ensures (c.list_size-without_plain.ensures _) (c.list_size-without_any.ensures _) _ n b p q c.list_fits.ensures c.if-not-list_fits.false c.list_fits-2.ensures c.if-not-list_fits-2.false c.list_fits-3.ensures c.if-not-list_fits-3.false c.temporaries_of-t.ensures (c.mark_released.ensures ∙ ap (release _ _) c.load_marks.ensures) c.copy_list.ensures c.copy_list-2.ensures c.copy_list-3.ensures c.store.ensures
