use mathlib.Core.Path.{◌≡◌}
use native.Mathlib.Omega.{arith}
use lib.ListN.{length}
use Rattle.std.specs.Slice.Iter.{chunks_exact_rest, chunks_exact_size}
use Rattle.listing.specs.Families.{header_of}
use Rattle.listing.proofs.Writing.{room_is, puts_is}
use Rattle.listing.proofs.Rows.{rows_none, rows_all, row_room, row_more}
use Rattle.listing.proofs.Heads.{first_inside, others_inside, headers_rows}
use Rattle.listing.proofs.output.Out.put_headers.Goals as goal

pub loop-header-init : goal.loop-header-init
loop-header-init c =
    let a = c.args in
    let all : chunks_exact_rest c.into_iter-header-iterator.result ≡ a.lists.headers.now = cc in
    let four : chunks_exact_size c.into_iter-header-iterator.result ≡ 4 = cc in (
      rw all c.requires.0,
      rows_none 4 (header_of a.family a.lists.variables.now a.lists.terms.now) a.lists.headers.now a.self.now four all
          (room_is a.self.now (headers_rows a.family a.lists.headers.now a.lists.variables.now a.lists.terms.now) c.requires.1),
    )

pub put_header-requires : goal.put_header-requires
put_header-requires c =
    let a = c.args in
    let h = c.loop-header.invariant in
    let came = c.in-Some.ensures.steps.1 in
    let four : length c.in-Some.header.now ≡ 4 = omega (arith, h.1.size_is, came.1) in
    (four, first_inside _ _ four (rw came.0 at h.0), row_room (omega arith) (header_of a.family a.lists.variables.now a.lists.terms.now) h.1 _ _ came.0 came.1)

pub loop-header-preserved : goal.loop-header-preserved
loop-header-preserved c =
    let a = c.args in
    let h = c.loop-header.invariant in
    let came = c.in-Some.ensures.steps in
    let four : length c.in-Some.header.now ≡ 4 = omega (arith, h.1.size_is, came.1.1) in (
      others_inside _ _ four (rw came.1.0 at h.0),
      row_more (omega arith) (header_of a.family a.lists.variables.now a.lists.terms.now) h.1 _ _ came.1.0 came.1.1 came.0 c.put_header.ensures,
    )

pub returns : goal.returns
returns c =
    let a = c.args in
    puts_is (rows_all (omega arith) (header_of a.family a.lists.variables.now a.lists.terms.now) c.loop-header.invariant.1 c.in-None.ensures.steps.1.0)
    (headers_rows a.family a.lists.headers.now a.lists.variables.now a.lists.terms.now)
