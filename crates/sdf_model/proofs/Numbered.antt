-- The lists of the plan that a document spells are no longer than the document has elements.
use Rattle.std.proofs.Common.{◌≡◌, ℕ, ◌<◌, ◌≤◌, ◌^◌, List, [], ◌∷◌, All, length, map, codes, Option, Some, None, IfSome, option_map, refl, arith}
use Rattle.std.proofs.lemmas.List.{length-map}
use Rattle.std.proofs.lemmas.List.Elements.{All-nil, All-cons}
use Rattle.toml.specs.Data.{Members}
use Rattle.sdf_plan.specs.declared.plan.Net.{Net}
use Rattle.sdf_plan.specs.declared.plan.Serial.{Serial}
use Rattle.sdf_plan.specs.declared.plan.Blk.{Blk}
use Rattle.sdf_plan.specs.declared.plan.Domain.{Domain}
use Rattle.sdf_plan.specs.declared.plan.Channel.{Channel}
use Rattle.sdf_plan.specs.Elements.{IsNumbered}
use Rattle.sdf_model.specs.Tree.{tables_at, table_at}
use Rattle.sdf_model.specs.Counts.{elements_of_members, elements_of_tables}
use Rattle.sdf_model.specs.Spelled.{plan_of, region_of, domain_of, map_of, irq_of, channel_of, end_of, net_of, net_client_of, serial_of, serial_client_of, blk_of, blk_client_of}
use Rattle.sdf_model.proofs.TableCounts.{tables-elements, table-elements, length-tables}

-- the list at a key
few : {T : Type 0} (f : Members → T) (key : List ℕ) (t : Members) (n : ℕ) → elements_of_members t < n → length (map f (tables_at key t)) < n
few f key t n h = omega (arith, h, tables-elements key t, length-tables (tables_at key t), length-map (tables_at key t) f)

-- the lists at a key of each of some tables
each : {T S : Type 0} (f : Members → T) (g : Members → S) (list : T → List S) (key : List ℕ) → ((t : Members) → list (f t) ≡ map g (tables_at key t))
    → (ts : List Members) (n : ℕ) → elements_of_tables ts < n → All (λ (x : T). length (list x) < n) (map f ts)
each f g list key is [] n h = All-nil _
each f g list key is (t ∷ ts) n h =
    All-cons (λ x. length (list x) < n) (f t) (map f ts) (rw (is t) (few g key t n (omega (arith, h)))) (each f g list key is ts n (omega (arith, h)))

-- the clients of a class
class-few : {T S : Type 0} (f : Members → T) (g : Members → S) (list : T → List S) (key : List ℕ) → ((t : Members) → list (f t) ≡ map g (tables_at key t))
    → (o : Option Members) (m n : ℕ) → IfSome o (λ t. elements_of_members t ≤ m) → m < n → IfSome (option_map f o) (λ (x : T). length (list x) < n)
class-few f g list key is None m n h l = tt
class-few f g list key is (Some t) m n h l = rw (is t) (few g key t n (omega (arith, h, l)))

pub numbered-plan : (root : Members) → elements_of_members root < 2 ^ 32 → IsNumbered (plan_of root)
numbered-plan root h =
    let n : ℕ = 2 ^ 32 in
    record {
      regions = few region_of (codes "memory_region") root n h;
      domains = few domain_of (codes "protection_domain") root n h;
      maps = each domain_of map_of (λ (d : Domain). d.map) (codes "map") (λ t. refl) (tables_at (codes "protection_domain") root) n (omega (arith, h, tables-elements (codes "protection_domain") root));
      irqs = each domain_of irq_of (λ (d : Domain). d.irq) (codes "irq") (λ t. refl) (tables_at (codes "protection_domain") root) n (omega (arith, h, tables-elements (codes "protection_domain") root));
      channels = few channel_of (codes "channel") root n h;
      ends = each channel_of end_of (λ (c : Channel). c.end) (codes "end") (λ t. refl) (tables_at (codes "channel") root) n (omega (arith, h, tables-elements (codes "channel") root));
      net = class-few net_of net_client_of (λ (x : Net). x.client) (codes "client") (λ t. refl) (table_at (codes "net") root) (elements_of_members root) n (table-elements (codes "net") root) h;
      serial = class-few serial_of serial_client_of (λ (x : Serial). x.client) (codes "client") (λ t. refl) (table_at (codes "serial") root) (elements_of_members root) n (table-elements (codes "serial") root) h;
      blk = class-few blk_of blk_client_of (λ (x : Blk). x.client) (codes "client") (λ t. refl) (table_at (codes "blk") root) (elements_of_members root) n (table-elements (codes "blk") root) h;
    }
