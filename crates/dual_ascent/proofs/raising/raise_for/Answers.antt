use Rattle.std.proofs.Common.{◌≡◌, ◌≤◌, ◌⊎◌, ℕ, sym, subst}
use Rattle.bidirected_form.specs.Entering.{CanBear}
use Rattle.dual_ascent.specs.Turns.{HasAnArcLeft}
use Rattle.dual_ascent.proofs.Fresh.{raise_made}
use Rattle.dual_ascent.proofs.raising.raise_for.Goals as goal

pub returns : goal.returns
returns c =
    let y = sym c.in_ok-cut.ensures.y in
    let gathered = c.requires.seen c.if-turn.false in
    let members = c.args.set.now.members in
    let limit = c.limit.result in
    let made = raise_made c.args.arcs.now c.args.twins.now c.args.room c.args.turn.now.waiting.vertex members limit c.in_ok-cut.cut (record {
      in_range = c.requires.in_range;
      raisable = c.is_raisable.ensures.0 c.if-not-is_raisable.false;
      some = c.requires.room;
      grown = gathered.0;
      apart = gathered.1;
      limited = c.limit.ensures;
      bound = subst (λ (x : ℕ). x ≤ limit) y c.border_of-border.ensures.limit;
      bears = subst (CanBear c.args.arcs.now members) y c.border_of-border.ensures.arcs;
      attained = subst (λ (x : ℕ). (x ≡ limit) ⊎ HasAnArcLeft c.args.arcs.now members x) y c.border_of-border.ensures.attained;
      names = c.in_ok-cut.ensures.q;
      same = c.in_ok-cut.ensures.members;
      ascending = c.in_ok-cut.ensures.ascending;
    }) in
    (made.0, made.1, c.if-turn.false)
