use Rattle.std.proofs.Common.{rules, ◌≡◌, length, refl}
use Rattle.client_programs.proofs.rogue.Rogue.forget.Goals as goal

pub returns-clause-after : goal.returns-clause-after
returns-clause-after c =
    let kept : c.len-self.result ≡ length c.args.self.now.kept.items = search rules in
    record { left = refl; start = rw kept refl; inputs = refl; outputs = refl; kind = refl; acts = refl; kept = refl; pages = refl }

pub returns-clause-whole : goal.returns-clause-whole
returns-clause-whole c f = record { kind = f.kind; place = f.place; acts = f.acts; inputs = f.inputs; outputs = f.outputs; room = f.room; few = f.few }

pub returns-clause-fits : goal.returns-clause-fits
returns-clause-fits c ends f = record {
  is = record { kind = f.is.kind; place = f.is.place; acts = f.is.acts; inputs = f.is.inputs; outputs = f.is.outputs; room = f.is.room; few = f.is.few };
  inputs = f.inputs;
  outputs = f.outputs;
  look = tt;
}

pub returns-clause-lists : goal.returns-clause-lists
returns-clause-lists c passed h = h
