-- The words from that place on that the interaction takes.
use native.Mathlib.Omega.{arith}
use Rattle.records.proofs.Standing.{place_read}
use Rattle.records.proofs.interactions.interaction_at.Goals as goal

pub returns : goal.returns
returns c = place_read c.args.words.now c.args.at c.requires (omega arith)
