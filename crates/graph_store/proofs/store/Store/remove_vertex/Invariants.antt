use Rattle.std.proofs.Common.{◌≡◌, ◌≤◌, ℕ, length}
use Rattle.st_model.specs.Network.{link, amount}
use Rattle.graph_store.proofs.store.Store.remove_vertex.Given as goal

-- only links of the vertex have gone
abbrev pub invariant-loop-other : goal.invariant-loop-other
invariant-loop-other l = record {
  count : l.self.network.n ≡ l.initial.self.network.n;
  needs : l.self.network.needs ≡ l.initial.self.network.needs;
  present : l.self.present ≡ l.initial.self.present;
  amount : amount l.self.network ≤ amount l.initial.self.network;
  links : (u w : ℕ) → (u ≡ l.vertex → ⊥) → (w ≡ l.vertex → ⊥) → link l.self.network.links u w ≡ link l.initial.self.network.links u w;
}

abbrev pub decreases-loop-other : goal.decreases-loop-other
decreases-loop-other l = length l.self.network.links
