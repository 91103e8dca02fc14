use Rattle.std.proofs.Common.{drop, refl, sym, ap, ◌∙◌, arith}
use Rattle.std.proofs.lemmas.Option.{slice_get_within}
use Rattle.i2c_virt.specs.I2cKit.Pages.{head_in, asked}
use Rattle.i2c_virt.proofs.Working.{head_below, head_spells, wanted_there, asks_there, asks_open, request_parts, asked_work, asked_log, ask_turn}
use Rattle.i2c_virt.proofs.Loosening.{rises_at}
use Rattle.i2c_virt.proofs.work.Work.ask.Goals as goal

pub judge-answer-requires-clause-within : goal.judge-answer-requires-clause-within
judge-answer-requires-clause-within c = head_below c.in-Page.page.bytes c.in-Some.head (ap head_in (sym c.bytes.ensures) ∙ (sym c.read_head.ensures.head ∙ c.in-Some.is))

pub index_mut-desk-requires : goal.index_mut-desk-requires
index_mut-desk-requires c =
    let t = wanted_there c.args.self.now c.args.place c.requires.needed in
    let lt = slice_get_within c.args.self.now.desks.items c.args.place t.0 t.1 in
    let n = c.args.self.now.desks.ok.0 in
    omega (arith, lt, n)

pub returns-clause-work : goal.returns-clause-work
returns-clause-work c =
    let w = c.args.self.now in
    let k = c.args.place in
    let p = c.in-Page.page in
    let x = c.index_mut-desk.result.now in
    let r = request_parts k c.args.entry p c.in-Page.is c.requires.in_turn in
    let h = ap head_in (sym c.bytes.ensures) ∙ (sym c.read_head.ensures.head ∙ c.in-Some.is) in
    asked_work w _ k x c.ask.new.self (asks_there w k x c.requires.needed c.index_mut-desk.ensures.value) refl c.requires.work p c.judge-answer.result c.ask.ensures (asks_open w k x c.requires.needed c.index_mut-desk.ensures.value) r.own r.within _ (head_spells p.bytes c.in-Some.head h) c.judge-answer.ensures.size

pub returns-clause-asked : goal.returns-clause-asked
returns-clause-asked c =
    let w = c.args.self.now in
    let k = c.args.place in
    let p = c.in-Page.page in
    let x = c.index_mut-desk.result.now in
    let r = request_parts k c.args.entry p c.in-Page.is c.requires.in_turn in
    let h = ap head_in (sym c.bytes.ensures) ∙ (sym c.read_head.ensures.head ∙ c.in-Some.is) in
    let head = c.in-Some.head in
    let ask = asked head.operation head.address head.count (drop 4 p.bytes) in
    ask_turn _ _ _ _ c.requires.in_turn (record {
      stray = refl;
      took = record { request = record { client = k; ask = ask }; page = p };
      is = r.is;
      client = refl;
      stands = asked_log w _ k x c.ask.new.self (asks_there w k x c.requires.needed c.index_mut-desk.ensures.value) refl c.requires.work p c.judge-answer.result c.ask.ensures (asks_open w k x c.requires.needed c.index_mut-desk.ensures.value) r.own r.within ask (head_spells p.bytes head h)
          (λ rs. c.judge-answer.ensures.verdict rs (drop 4 p.bytes)) (λ rs. c.judge-answer.ensures.knows rs (drop 4 p.bytes));
    })

pub returns-clause-rises : goal.returns-clause-rises
returns-clause-rises c = rises_at c.args.self.now _ c.args.place c.ask.new.self refl refl
