use Rattle.std.proofs.Common.{rules, false, ◌≡◌, length, vec_len, refl, ap, ◌∙◌, arith}
use Rattle.std.proofs.lemmas.List.{length-map}
use Rattle.client_programs.proofs.RogueLemmas.Following.{takes_few, starts_stand}
use Rattle.client_programs.proofs.rogue.Rogue.new.Goals as goal

pub kept_pages-requires : goal.kept_pages-requires
kept_pages-requires c = let n : length c.args.acts.items ≡ c.len.result = search rules in omega (arith, n, c.requires.few)

pub returns-clause-new : goal.returns-clause-new
returns-clause-new c =
    let n : length c.args.acts.items ≡ c.len.result = search rules in
    let had_is : c.len-had.result ≡ length c.in_ok-kept.kept.items = search rules in
    let long : vec_len c.in_ok-kept.kept ≡ length c.in_ok-kept.kept.items = search rules in
    let pages : length c.in_ok-kept.kept.items ≡ length c.args.pages.items = ap length c.in_ok-kept.ensures.items ∙ simp length-map in
    record {
      is = record {
        kind = c.requires.kind;
        place = omega arith;
        acts = c.requires.acts;
        inputs = c.requires.inputs;
        outputs = c.requires.outputs;
        room = omega (arith, takes_few c.args.acts.items, n, c.in_ok-kept.ensures.room);
        few = omega (arith, takes_few c.args.acts.items, long, pages, c.requires.few);
      };
      puts = refl;
      from = refl;
      to = refl;
      left = rw (c.in_ok-kept.ensures.items) (simp length-map refl);
      keeps = c.in_ok-kept.ensures.items;
      had = rw c.of-start.ensures refl;
      start = rw had_is refl;
    }

pub returns-clause-stands : goal.returns-clause-stands
returns-clause-stands c =
    starts_stand (record { kind = c.args.kind; inputs = c.args.inputs; outputs = c.args.outputs; acts = c.args.acts; next = 0; looked = false; kept = c.in_ok-kept.kept; first = 0; had = c.len-had.result; start = c.of-start.result })
    (rw c.of-start.ensures c.in_ok-kept.ensures.items)
