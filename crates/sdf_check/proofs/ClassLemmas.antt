-- The domains and the regions that class elements name, class by class.
use Rattle.std.proofs.Common.{◌≡◌, List, ◌++◌, flat_map, refl, sym, ap}
use Rattle.sdf_plan.specs.declared.plan.Plan.{Plan}
use Rattle.sdf_plan.specs.declared.plan.Net.{Net}
use Rattle.sdf_plan.specs.declared.plan.Serial.{Serial}
use Rattle.sdf_plan.specs.declared.plan.Blk.{Blk}
use Rattle.sdf_plan.specs.ClassTable.Names.{domains_of, regions_of}
use Rattle.sdf_plan.specs.ClassTable.Table.{net_client_element, net_elements, serial_client_element, serial_elements, blk_client_element, blk_elements}
use Rattle.sdf_plan.proofs.ClassTable.Flat.{flat-names, flat-class, flat-three}
use Rattle.sdf_check.specs.Names.{net_domains, net_client_domains, serial_domains, serial_client_domains, blk_domains, blk_client_domains, net_regions, net_client_regions, serial_regions, serial_client_regions, blk_regions, blk_client_regions}
use Rattle.sdf_check.specs.ClassRules.{class_domains, class_regions, net_names, serial_names, blk_names}

net-domains : (net : Net) → net_domains net ++ flat_map net_client_domains net.client ≡ flat_map domains_of (net_elements net)
net-domains net = ap (λ rest. net_domains net ++ rest) (flat-names domains_of (net_client_element net) net_client_domains 0 net.client (λ k client. refl))

serial-domains : (serial : Serial) → serial_domains serial ++ flat_map serial_client_domains serial.client ≡ flat_map domains_of (serial_elements serial)
serial-domains serial = ap (λ rest. serial_domains serial ++ rest) (flat-names domains_of (serial_client_element serial) serial_client_domains 0 serial.client (λ k client. refl))

blk-domains : (blk : Blk) → blk_domains blk ++ flat_map blk_client_domains blk.client ≡ flat_map domains_of (blk_elements blk)
blk-domains blk = ap (λ rest. blk_domains blk ++ rest) (flat-names domains_of (blk_client_element blk) blk_client_domains 0 blk.client (λ k client. refl))

pub domains_same : (plan : Plan) → class_domains plan
    ≡ net_names net_domains net_client_domains plan ++ serial_names serial_domains serial_client_domains plan ++ blk_names blk_domains blk_client_domains plan
domains_same plan =
    sym (flat-three domains_of plan _ _ _
    (flat-class domains_of net_elements (λ (x : Net). net_domains x ++ flat_map net_client_domains x.client) plan.net net-domains)
    (flat-class domains_of serial_elements (λ (x : Serial). serial_domains x ++ flat_map serial_client_domains x.client) plan.serial serial-domains)
    (flat-class domains_of blk_elements (λ (x : Blk). blk_domains x ++ flat_map blk_client_domains x.client) plan.blk blk-domains))

net-regions : (net : Net) → net_regions net ++ flat_map net_client_regions net.client ≡ flat_map regions_of (net_elements net)
net-regions net = ap (λ rest. net_regions net ++ rest) (flat-names regions_of (net_client_element net) net_client_regions 0 net.client (λ k client. refl))

serial-regions : (serial : Serial) → serial_regions serial ++ flat_map serial_client_regions serial.client ≡ flat_map regions_of (serial_elements serial)
serial-regions serial = ap (λ rest. serial_regions serial ++ rest) (flat-names regions_of (serial_client_element serial) serial_client_regions 0 serial.client (λ k client. refl))

blk-regions : (blk : Blk) → blk_regions blk ++ flat_map blk_client_regions blk.client ≡ flat_map regions_of (blk_elements blk)
blk-regions blk = ap (λ rest. blk_regions blk ++ rest) (flat-names regions_of (blk_client_element blk) blk_client_regions 0 blk.client (λ k client. refl))

pub regions_same : (plan : Plan) → class_regions plan
    ≡ net_names net_regions net_client_regions plan ++ serial_names serial_regions serial_client_regions plan ++ blk_names blk_regions blk_client_regions plan
regions_same plan =
    sym (flat-three regions_of plan _ _ _
    (flat-class regions_of net_elements (λ (x : Net). net_regions x ++ flat_map net_client_regions x.client) plan.net net-regions)
    (flat-class regions_of serial_elements (λ (x : Serial). serial_regions x ++ flat_map serial_client_regions x.client) plan.serial serial-regions)
    (flat-class regions_of blk_elements (λ (x : Blk). blk_regions x ++ flat_map blk_client_regions x.client) plan.blk blk-regions))
