use Rattle.std.proofs.Common.{◌∙◌, ◌++◌, List, ap, map}
use Rattle.sdf_plan.specs.declared.plan.NetClient.{NetClient}
use Rattle.sdf_plan.specs.ClassTable.Shown.{element_shown}
use Rattle.sdf_plan.specs.ClassTable.Table.{net_element, net_client_element, numbered}
use Rattle.sdf_plan.proofs.ClassTable.Numbered.{class-joined}
use Rattle.sdf_plan.proofs.class_table.table.add_net.Goals as goal

pub returns-in_ok-add_net_clients : goal.returns-in_ok-add_net_clients
returns-in_ok-add_net_clients c =
    let net = c.in-Some.net in
    rw c.in-Some.is
    (class-joined c.args.table.now.items _ c.add_net_clients.new.table.items _ (net_element net) (numbered (net_client_element net) 0 net.client)
    c.in_ok-push.ensures.items c.in_ok-net_element.ensures
    (c.in_ok-add_net_clients.ensures ∙ ap (λ (clients : List NetClient). map element_shown c.push.new.self.items ++ numbered (net_client_element net) 0 clients) c.as_slice.ensures))
