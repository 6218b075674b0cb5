-- Each event keeps what a state keeps.
use Rattle.std.proofs.Common.{◌≡◌, ℕ, true, false, List, refl}
use Rattle.st_model.specs.declared.branch.Branch.{Branch}
use Rattle.branching.specs.Node.{IsNode}
use Rattle.st_model.specs.Network.{Network, IsInstance}
use Rattle.cut_packing.specs.declared.packing.Packing.{Packing}
use Rattle.search_core.specs.declared.done.End.{End}
use Rattle.search_core.specs.declared.done.End.TheVariants.{ClaimRefused}
use Rattle.search_core.specs.declared.event.Event.{Event}
use Rattle.search_core.specs.declared.made.Made.{Made}
use Rattle.search_core.specs.declared.worker.Worker.{Worker}
use Rattle.search_core.specs.State.{State, beginning, root_of}
use Rattle.search_core.specs.Needs.{IsAllowed}
use Rattle.search_core.specs.Effects.{after, ended, refused}
use Rattle.search_core.specs.Kept.{IsKept}
use Rattle.search_core.proofs.Soundness.{sound_after, sound_beginning, sound_idle}
use Rattle.search_core.proofs.Counting.{counted_after, counted_beginning, counted_idle}
use Rattle.search_core.proofs.Recording.{recorded_after, recorded_beginning, recorded_idle}

pub kept_after : (S : State) (e : Event) → IsKept S → IsAllowed S e → IsKept (after S e)
kept_after S e kept allowed = record { sound = sound_after S e kept.sound allowed; counted = counted_after S e kept.counted allowed; recorded = recorded_after S e kept.sound kept.counted kept.recorded allowed }

pub kept_beginning : (I : Network) (R : Branch) (P : Packing) (workers budget start : ℕ) → IsInstance I → IsNode I (root_of R P) → IsKept (beginning I R P workers budget start)
kept_beginning I R P workers budget start instance root = record { sound = sound_beginning I R P workers budget start instance root; counted = counted_beginning I R P workers budget start; recorded = recorded_beginning I R P workers budget start }

-- the same where the parts are known by equations
pub kept_begun : (I : Network) (R : Branch) (P : Packing) (count budget start : ℕ) (I' : Network) (R' : Branch) (nodes : List Made) (workers : List Worker) → IsInstance I → IsNode I (root_of R P) → I' ≡ I → R' ≡ R → nodes ≡ (beginning I R P count budget start).nodes → workers ≡ (beginning I R P count budget start).workers → IsKept (record { instance = I'; branch = R'; start = start; budget = budget; nodes = nodes; workers = workers; least = start; claims = 0; opened = 1; halted = false })
kept_begun I R P count budget start I' R' nodes workers instance root a b d e = rw (a, b, d, e) (kept_beginning I R P count budget start instance root)

-- the end of a worker
pub kept_ended : (S : State) (w : ℕ) (why : End) → IsKept S → IsKept (ended S w why)
kept_ended S w why kept = record {
  sound = sound_idle S w (λ x. record x { end = why }) S.opened (λ x. refl) (λ x. refl) (λ x. refl) kept.sound;
  counted = counted_idle S w (λ x. record x { end = why }) (λ x. refl) (λ x. refl) (λ x. refl) kept.counted;
  recorded = recorded_idle S w (λ x. record x { end = why }) S.nodes (λ x. refl) kept.recorded;
}

-- a claim that is refused
pub kept_refused : (S : State) (w : ℕ) → IsKept S → IsKept (refused S w)
kept_refused S w kept = record {
  sound = sound_idle S w (λ x. record x { refused = true; end = ClaimRefused }) S.opened (λ x. refl) (λ x. refl) (λ x. refl) kept.sound;
  counted = counted_idle S w (λ x. record x { refused = true; end = ClaimRefused }) (λ x. refl) (λ x. refl) (λ x. refl) kept.counted;
  recorded = recorded_idle S w (λ x. record x { refused = true; end = ClaimRefused }) S.nodes (λ x. refl) kept.recorded;
}
