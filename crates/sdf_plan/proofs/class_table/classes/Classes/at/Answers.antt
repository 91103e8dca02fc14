use Rattle.sdf_plan.specs.declared.plan.Net.{Net}
use Rattle.sdf_plan.specs.declared.plan.Serial.{Serial}
use Rattle.sdf_plan.specs.declared.plan.Blk.{Blk}
use Rattle.sdf_plan.specs.ClassTable.Table.{net_element, net_client_element, serial_element, serial_client_element, blk_element, blk_client_element}
use Rattle.sdf_plan.proofs.ClassTable.At.{class-match, client-match}
use Rattle.sdf_plan.proofs.class_table.classes.Classes.at.Goals as goal

pub returns-in-Net : goal.returns-in-Net
returns-in-Net c = λ plan are.
    rw c.in-Net.is (class-match net_element net_client_element (λ (x : Net). x.client) plan.net c.args.self.now.net c.nth.result are.net c.nth.ensures)

pub returns-in-NetClient : goal.returns-in-NetClient
returns-in-NetClient c = λ plan are.
    rw c.in-NetClient.is
    (client-match net_element net_client_element (λ (x : Net). x.client) plan.net c.args.self.now.net c.in-NetClient.c c.nth-in-NetClient.result are.net c.nth-in-NetClient.ensures)

pub returns-in-Serial : goal.returns-in-Serial
returns-in-Serial c = λ plan are.
    rw c.in-Serial.is (class-match serial_element serial_client_element (λ (x : Serial). x.client) plan.serial c.args.self.now.serial c.nth-in-Serial.result are.serial c.nth-in-Serial.ensures)

pub returns-in-SerialClient : goal.returns-in-SerialClient
returns-in-SerialClient c = λ plan are.
    rw c.in-SerialClient.is
    (client-match serial_element serial_client_element (λ (x : Serial). x.client) plan.serial c.args.self.now.serial c.in-SerialClient.c c.nth-in-SerialClient.result are.serial c.nth-in-SerialClient.ensures)

pub returns-in-Blk : goal.returns-in-Blk
returns-in-Blk c = λ plan are.
    rw c.in-Blk.is (class-match blk_element blk_client_element (λ (x : Blk). x.client) plan.blk c.args.self.now.blk c.nth-in-Blk.result are.blk c.nth-in-Blk.ensures)

pub returns-in-BlkClient : goal.returns-in-BlkClient
returns-in-BlkClient c = λ plan are.
    rw c.in-BlkClient.is
    (client-match blk_element blk_client_element (λ (x : Blk). x.client) plan.blk c.args.self.now.blk c.in-BlkClient.c c.nth-in-BlkClient.result are.blk c.nth-in-BlkClient.ensures)
