-- The length is no length of blocks, or the output is too short, or the blocks are read one by one.
use mathlib.Core.Path.{◌≡◌, refl, sym, ◌∙◌}
use mathlib.Core.Bool.{false}
use borrow.Author.Rules.{rules}
use lib.ListN.{length}
use Rattle.semantics.specs.Block.{bad_length}
use Rattle.block_reader.proofs.Reading.{blocks_fit, length_bad, output_short, blocks_read}
use Rattle.block_reader.proofs.read_all.Goals as goal

pub returns-then-bad_length : goal.returns-then-bad_length
returns-then-bad_length c =
    length_bad c.args.bytes.now c.args.out.now refl (sym c.if-bad_length.true ∙ c.bad_length.ensures)

pub returns-then-out-needed : goal.returns-then-out-needed
returns-then-out-needed c =
    let length_good : false ≡ bad_length (length c.args.bytes.now) =
    sym c.if-bad_length.false ∙ c.bad_length.ensures in
    output_short c.args.bytes.now c.args.out.now refl length_good c.if-out-needed.true

pub read_each-requires : goal.read_each-requires
read_each-requires c =
    let length_good : false ≡ bad_length (length c.args.bytes.now) =
    sym c.if-bad_length.false ∙ c.bad_length.ensures in
    let fit = blocks_fit (length c.args.bytes.now) length_good in
    (fit.0, fit.1, search rules)

pub returns : goal.returns
returns c =
    let length_good : false ≡ bad_length (length c.args.bytes.now) =
    sym c.if-bad_length.false ∙ c.bad_length.ensures in
    let read = c.read_each in
    blocks_read c.args.bytes.now read.new.out read.auto.out length_good read.result (search rules) read.ensures
