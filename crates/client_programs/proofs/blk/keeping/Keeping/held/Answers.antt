use Rattle.std.proofs.Common.{List, ap, arith}
use Rattle.cargo_core.specs.Bodies.{buffers_of}
use Rattle.cargo_core.specs.Pages.{Paged}
use Rattle.buffer_kit.specs.Pools.{page_bodies}
use Rattle.client_programs.specs.Blk.Kept.{Kept}
use Rattle.client_programs.proofs.BlkLemmas.Pages.{both_count}
use Rattle.client_programs.proofs.blk.keeping.Keeping.held.Goals as goal

pub returns-clause-held : goal.returns-clause-held
returns-clause-held c =
    let all = both_count c.args.pool c.self.inside.front.items c.self.inside.back.items in
    let seen = ap (λ (k : Kept). buffers_of c.args.pool (page_bodies k.pages)) c.self.view_is in
    let front = ap (λ (xs : List Paged). buffers_of c.args.pool (page_bodies xs)) c.deref.ensures.value in
    let back = ap (λ (xs : List Paged). buffers_of c.args.pool (page_bodies xs)) c.deref-2.ensures.value in
    omega (arith, all, seen, front, back, c.pages_of.ensures.pages, c.pages_of-2.ensures.pages)
