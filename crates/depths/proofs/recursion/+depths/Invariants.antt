use Rattle.std.proofs.Common.{◌≡◌, ℕ, ◌+◌, ◌*◌, ◌≤◌, max, drop, Some}
use Rattle.ports.specs.Inputs.{inputs}
use Rattle.depths.specs.Depths.{deepest, adder_depth}
use Rattle.depths.proofs.Sources.{rank}
use Rattle.depths.proofs.recursion.+depths.Given as goal

-- an adder asks for its two ports, and a port for lower adders
abbrev pub decreases-adder_depth : goal.decreases-adder_depth
decreases-adder_depth l = 2 * l.adder + 1

abbrev pub decreases-port_depth : goal.decreases-port_depth
decreases-port_depth l = 2 * rank l.port

abbrev pub invariant-port_depth-loop-input : goal.invariant-port_depth-loop-input
invariant-port_depth-loop-input l = record {
  whole : max l.deepest (deepest (adder_depth l.block) (drop l.input-index l.input-items)) ≡ deepest (adder_depth l.block) (inputs l.block l.fn.port);
  asked : (s : ℕ) → l.last_source ≡ Some s → adder_depth l.block s ≤ l.deepest;
  items : l.input-items ≡ inputs l.block l.fn.port;
}
