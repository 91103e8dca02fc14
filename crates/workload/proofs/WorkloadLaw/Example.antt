-- The document that the full example is.
use Rattle.std.proofs.Common.{◌≡◌, ◌≤◌, refl, ap, inl, inr, arith, drop, ◌∙◌, ℕ, suc, ◌==◌, false, List, [], ◌∷◌, ◌++◌, true, Option, Some, option_map, length, codes, pos}
use Rattle.std.specs.Prelude.{⊤}
use Rattle.std.proofs.lemmas.Bool.{cases_Bool, eqb-true}
use Rattle.toml_parser.specs.Strings.{Key}
use Rattle.toml_parser.specs.Lexical.{skip_blank, skip_from, skip_ws}
use Rattle.toml.specs.Data.{Data, Items, no_items, item, push_item, Members, no_members, member, array, table, string, integer}
use Rattle.toml.specs.Tables.{Nodes, no_nodes, node, value, Document, Expression, key_value, define, close}
use Rattle.toml.specs.Parse.{read_map, ends_line, val, items, expression, line, lines, skip_bom, parse_document}
use Rattle.toml.proofs.OnLiterals.{toml_on_literals}
use Rattle.sdf_model.specs.Counts.{text_most}
use Rattle.sdf_model.specs.Spelled.{plan_of}
use Rattle.trace_text.specs.Events.{is_source, is_speaker, is_script}
use Rattle.trace_text.specs.Limits.{frame_most}
use Rattle.workload.specs.declared.description.TheConstants.{FULL_EXAMPLE}
use Rattle.workload.specs.WorkloadLaw.Clients.{HasClients}

regions_text : List ℕ
regions_text = codes "memory_region = [\n {name=\"net_rx\", size=0x100000, phys_addr=0x10000000},\n {name=\"net_rxq\", size=0x5000}, {name=\"net_txq\", size=0x9000},\n {name=\"lease0\", size=0x5000}, {name=\"lease1\", size=0x5000},\n {name=\"rx0\", size=0x100000}, {name=\"rx1\", size=0x100000},\n {name=\"rxq0\", size=0x5000}, {name=\"rxq1\", size=0x5000},\n {name=\"tx0\", size=0x100000}, {name=\"tx1\", size=0x100000},\n {name=\"txq0\", size=0x5000}, {name=\"txq1\", size=0x5000},\n {name=\"s_rx\", size=0x1000}, {name=\"s_tx\", size=0x1000},\n {name=\"s_rx0\", size=0x1000}, {name=\"s_tx0\", size=0x1000},\n {name=\"s_rx1\", size=0x1000}, {name=\"s_tx1\", size=0x1000},\n {name=\"b_q\", size=0x1000}, {name=\"b_mbr\", size=0x8000},\n {name=\"b_q0\", size=0x1000}, {name=\"b_q1\", size=0x1000},\n {name=\"b_d0\", size=0x20000}, {name=\"b_d1\", size=0x20000},\n]\n"

unfoldable pub regions : Items
regions = item (table (member (codes "name") (string (codes "net_rx")) (member (codes "phys_addr") (integer (pos 268435456)) (member (codes "size") (integer (pos 1048576)) no_members)))) (item (table (member (codes "name") (string (codes "net_rxq")) (member (codes "size") (integer (pos 20480)) no_members))) (item (table (member (codes "name") (string (codes "net_txq")) (member (codes "size") (integer (pos 36864)) no_members))) (item (table (member (codes "name") (string (codes "lease0")) (member (codes "size") (integer (pos 20480)) no_members))) (item (table (member (codes "name") (string (codes "lease1")) (member (codes "size") (integer (pos 20480)) no_members))) (item (table (member (codes "name") (string (codes "rx0")) (member (codes "size") (integer (pos 1048576)) no_members))) (item (table (member (codes "name") (string (codes "rx1")) (member (codes "size") (integer (pos 1048576)) no_members))) (item (table (member (codes "name") (string (codes "rxq0")) (member (codes "size") (integer (pos 20480)) no_members))) (item (table (member (codes "name") (string (codes "rxq1")) (member (codes "size") (integer (pos 20480)) no_members))) (item (table (member (codes "name") (string (codes "tx0")) (member (codes "size") (integer (pos 1048576)) no_members))) (item (table (member (codes "name") (string (codes "tx1")) (member (codes "size") (integer (pos 1048576)) no_members))) (item (table (member (codes "name") (string (codes "txq0")) (member (codes "size") (integer (pos 20480)) no_members))) (item (table (member (codes "name") (string (codes "txq1")) (member (codes "size") (integer (pos 20480)) no_members))) (item (table (member (codes "name") (string (codes "s_rx")) (member (codes "size") (integer (pos 4096)) no_members))) (item (table (member (codes "name") (string (codes "s_tx")) (member (codes "size") (integer (pos 4096)) no_members))) (item (table (member (codes "name") (string (codes "s_rx0")) (member (codes "size") (integer (pos 4096)) no_members))) (item (table (member (codes "name") (string (codes "s_tx0")) (member (codes "size") (integer (pos 4096)) no_members))) (item (table (member (codes "name") (string (codes "s_rx1")) (member (codes "size") (integer (pos 4096)) no_members))) (item (table (member (codes "name") (string (codes "s_tx1")) (member (codes "size") (integer (pos 4096)) no_members))) (item (table (member (codes "name") (string (codes "b_q")) (member (codes "size") (integer (pos 4096)) no_members))) (item (table (member (codes "name") (string (codes "b_mbr")) (member (codes "size") (integer (pos 32768)) no_members))) (item (table (member (codes "name") (string (codes "b_q0")) (member (codes "size") (integer (pos 4096)) no_members))) (item (table (member (codes "name") (string (codes "b_q1")) (member (codes "size") (integer (pos 4096)) no_members))) (item (table (member (codes "name") (string (codes "b_d0")) (member (codes "size") (integer (pos 131072)) no_members))) (item (table (member (codes "name") (string (codes "b_d1")) (member (codes "size") (integer (pos 131072)) no_members))) no_items))))))))))))))))))))))))

-- the line of the regions, before any text
regions_line : (rest : List ℕ) → expression (regions_text ++ rest) ≡ Some ((([], codes "memory_region"), key_value (array regions)), 10 ∷ rest)
unfolding toml_on_literals regions_text regions
regions_line rest = refl

channels_text : List ℕ
channels_text = codes "channel = [\n {end=[{pd=\"eth\", id=1}, {pd=\"net_rx\", id=0}]}, {end=[{pd=\"eth\", id=2}, {pd=\"net_tx\", id=0}]},\n {end=[{pd=\"net_rx\", id=1}, {pd=\"copy0\", id=0}]}, {end=[{pd=\"net_rx\", id=2}, {pd=\"copy1\", id=0}]},\n {end=[{pd=\"copy0\", id=1}, {pd=\"app0\", id=0}]}, {end=[{pd=\"copy1\", id=1}, {pd=\"app1\", id=0}]},\n {end=[{pd=\"net_tx\", id=1}, {pd=\"app0\", id=1}]}, {end=[{pd=\"net_tx\", id=2}, {pd=\"app1\", id=1}]},\n {end=[{pd=\"uart\", id=1}, {pd=\"ser_rx\", id=0}]}, {end=[{pd=\"uart\", id=2}, {pd=\"ser_tx\", id=0}]},\n {end=[{pd=\"ser_rx\", id=1}, {pd=\"term0\", id=0}]}, {end=[{pd=\"ser_rx\", id=2}, {pd=\"term1\", id=0}]},\n {end=[{pd=\"ser_tx\", id=1}, {pd=\"term0\", id=1}]}, {end=[{pd=\"ser_tx\", id=2}, {pd=\"term1\", id=1}]},\n {end=[{pd=\"disk\", id=1}, {pd=\"blkv\", id=0}]},\n {end=[{pd=\"blkv\", id=1}, {pd=\"fs0\", id=0}]}, {end=[{pd=\"blkv\", id=2}, {pd=\"fs1\", id=0}]},\n]\n"

unfoldable pub channels : Items
channels = item (table (member (codes "end") (array (item (table (member (codes "id") (integer (pos 1)) (member (codes "pd") (string (codes "eth")) no_members))) (item (table (member (codes "id") (integer (pos 0)) (member (codes "pd") (string (codes "net_rx")) no_members))) no_items))) no_members)) (item (table (member (codes "end") (array (item (table (member (codes "id") (integer (pos 2)) (member (codes "pd") (string (codes "eth")) no_members))) (item (table (member (codes "id") (integer (pos 0)) (member (codes "pd") (string (codes "net_tx")) no_members))) no_items))) no_members)) (item (table (member (codes "end") (array (item (table (member (codes "id") (integer (pos 1)) (member (codes "pd") (string (codes "net_rx")) no_members))) (item (table (member (codes "id") (integer (pos 0)) (member (codes "pd") (string (codes "copy0")) no_members))) no_items))) no_members)) (item (table (member (codes "end") (array (item (table (member (codes "id") (integer (pos 2)) (member (codes "pd") (string (codes "net_rx")) no_members))) (item (table (member (codes "id") (integer (pos 0)) (member (codes "pd") (string (codes "copy1")) no_members))) no_items))) no_members)) (item (table (member (codes "end") (array (item (table (member (codes "id") (integer (pos 1)) (member (codes "pd") (string (codes "copy0")) no_members))) (item (table (member (codes "id") (integer (pos 0)) (member (codes "pd") (string (codes "app0")) no_members))) no_items))) no_members)) (item (table (member (codes "end") (array (item (table (member (codes "id") (integer (pos 1)) (member (codes "pd") (string (codes "copy1")) no_members))) (item (table (member (codes "id") (integer (pos 0)) (member (codes "pd") (string (codes "app1")) no_members))) no_items))) no_members)) (item (table (member (codes "end") (array (item (table (member (codes "id") (integer (pos 1)) (member (codes "pd") (string (codes "net_tx")) no_members))) (item (table (member (codes "id") (integer (pos 1)) (member (codes "pd") (string (codes "app0")) no_members))) no_items))) no_members)) (item (table (member (codes "end") (array (item (table (member (codes "id") (integer (pos 2)) (member (codes "pd") (string (codes "net_tx")) no_members))) (item (table (member (codes "id") (integer (pos 1)) (member (codes "pd") (string (codes "app1")) no_members))) no_items))) no_members)) (item (table (member (codes "end") (array (item (table (member (codes "id") (integer (pos 1)) (member (codes "pd") (string (codes "uart")) no_members))) (item (table (member (codes "id") (integer (pos 0)) (member (codes "pd") (string (codes "ser_rx")) no_members))) no_items))) no_members)) (item (table (member (codes "end") (array (item (table (member (codes "id") (integer (pos 2)) (member (codes "pd") (string (codes "uart")) no_members))) (item (table (member (codes "id") (integer (pos 0)) (member (codes "pd") (string (codes "ser_tx")) no_members))) no_items))) no_members)) (item (table (member (codes "end") (array (item (table (member (codes "id") (integer (pos 1)) (member (codes "pd") (string (codes "ser_rx")) no_members))) (item (table (member (codes "id") (integer (pos 0)) (member (codes "pd") (string (codes "term0")) no_members))) no_items))) no_members)) (item (table (member (codes "end") (array (item (table (member (codes "id") (integer (pos 2)) (member (codes "pd") (string (codes "ser_rx")) no_members))) (item (table (member (codes "id") (integer (pos 0)) (member (codes "pd") (string (codes "term1")) no_members))) no_items))) no_members)) (item (table (member (codes "end") (array (item (table (member (codes "id") (integer (pos 1)) (member (codes "pd") (string (codes "ser_tx")) no_members))) (item (table (member (codes "id") (integer (pos 1)) (member (codes "pd") (string (codes "term0")) no_members))) no_items))) no_members)) (item (table (member (codes "end") (array (item (table (member (codes "id") (integer (pos 2)) (member (codes "pd") (string (codes "ser_tx")) no_members))) (item (table (member (codes "id") (integer (pos 1)) (member (codes "pd") (string (codes "term1")) no_members))) no_items))) no_members)) (item (table (member (codes "end") (array (item (table (member (codes "id") (integer (pos 1)) (member (codes "pd") (string (codes "disk")) no_members))) (item (table (member (codes "id") (integer (pos 0)) (member (codes "pd") (string (codes "blkv")) no_members))) no_items))) no_members)) (item (table (member (codes "end") (array (item (table (member (codes "id") (integer (pos 1)) (member (codes "pd") (string (codes "blkv")) no_members))) (item (table (member (codes "id") (integer (pos 0)) (member (codes "pd") (string (codes "fs0")) no_members))) no_items))) no_members)) (item (table (member (codes "end") (array (item (table (member (codes "id") (integer (pos 2)) (member (codes "pd") (string (codes "blkv")) no_members))) (item (table (member (codes "id") (integer (pos 0)) (member (codes "pd") (string (codes "fs1")) no_members))) no_items))) no_members)) no_items))))))))))))))))

channels_line : (rest : List ℕ) → expression (channels_text ++ rest) ≡ Some ((([], codes "channel"), key_value (array channels)), 10 ∷ rest)
unfolding toml_on_literals channels_text channels
channels_line rest = refl

domains_text_0 : List ℕ
domains_text_0 = codes "\n {name=\"eth\", priority=101, budget=100, period=400, program=\"eth_driver\", irq=[{irq=79, id=0, trigger=\"edge\"}], map=[\n  {mr=\"net_rxq\", vaddr=0x2000000, perms=\"rw\"}, {mr=\"net_txq\", vaddr=0x2200000, perms=\"rw\"}]},\n {name=\"net_rx\", priority=99, program=\"net_virt_rx\", map=[\n  {mr=\"net_rxq\", vaddr=0x2000000, perms=\"rw\"}, {mr=\"net_rx\", vaddr=0x2200000, perms=\"r\"},\n  {mr=\"lease0\", vaddr=0x2400000, perms=\"rw\"}, {mr=\"lease1\", vaddr=0x2600000, perms=\"rw\"}]},\n {name=\"net_tx\", priority=100, program=\"net_virt_tx\", map=[\n  {mr=\"net_txq\", vaddr=0x2000000, perms=\"rw\"},\n  {mr=\"txq0\", vaddr=0x2200000, perms=\"rw\"}, {mr=\"txq1\", vaddr=0x2400000, perms=\"rw\"}]},\n {name=\"copy0\", priority=98, program=\"net_copier\", map=[\n  {mr=\"lease0\", vaddr=0x2000000, perms=\"rw\"}, {mr=\"net_rx\", vaddr=0x2200000, perms=\"r\"},\n  {mr=\"rxq0\", vaddr=0x2400000, perms=\"rw\"}, {mr=\"rx0\", vaddr=0x2600000, perms=\"rw\"}]},"

unfoldable pub domain_0 : Members
domain_0 = member (codes "budget") (integer (pos 100)) (member (codes "irq") (array (item (table (member (codes "id") (integer (pos 0)) (member (codes "irq") (integer (pos 79)) (member (codes "trigger") (string (codes "edge")) no_members)))) no_items)) (member (codes "map") (array (item (table (member (codes "mr") (string (codes "net_rxq")) (member (codes "perms") (string (codes "rw")) (member (codes "vaddr") (integer (pos 33554432)) no_members)))) (item (table (member (codes "mr") (string (codes "net_txq")) (member (codes "perms") (string (codes "rw")) (member (codes "vaddr") (integer (pos 35651584)) no_members)))) no_items))) (member (codes "name") (string (codes "eth")) (member (codes "period") (integer (pos 400)) (member (codes "priority") (integer (pos 101)) (member (codes "program") (string (codes "eth_driver")) no_members))))))

unfoldable pub domain_1 : Members
domain_1 = member (codes "map") (array (item (table (member (codes "mr") (string (codes "net_rxq")) (member (codes "perms") (string (codes "rw")) (member (codes "vaddr") (integer (pos 33554432)) no_members)))) (item (table (member (codes "mr") (string (codes "net_rx")) (member (codes "perms") (string (codes "r")) (member (codes "vaddr") (integer (pos 35651584)) no_members)))) (item (table (member (codes "mr") (string (codes "lease0")) (member (codes "perms") (string (codes "rw")) (member (codes "vaddr") (integer (pos 37748736)) no_members)))) (item (table (member (codes "mr") (string (codes "lease1")) (member (codes "perms") (string (codes "rw")) (member (codes "vaddr") (integer (pos 39845888)) no_members)))) no_items))))) (member (codes "name") (string (codes "net_rx")) (member (codes "priority") (integer (pos 99)) (member (codes "program") (string (codes "net_virt_rx")) no_members)))

unfoldable pub domain_2 : Members
domain_2 = member (codes "map") (array (item (table (member (codes "mr") (string (codes "net_txq")) (member (codes "perms") (string (codes "rw")) (member (codes "vaddr") (integer (pos 33554432)) no_members)))) (item (table (member (codes "mr") (string (codes "txq0")) (member (codes "perms") (string (codes "rw")) (member (codes "vaddr") (integer (pos 35651584)) no_members)))) (item (table (member (codes "mr") (string (codes "txq1")) (member (codes "perms") (string (codes "rw")) (member (codes "vaddr") (integer (pos 37748736)) no_members)))) no_items)))) (member (codes "name") (string (codes "net_tx")) (member (codes "priority") (integer (pos 100)) (member (codes "program") (string (codes "net_virt_tx")) no_members)))

unfoldable pub domain_3 : Members
domain_3 = member (codes "map") (array (item (table (member (codes "mr") (string (codes "lease0")) (member (codes "perms") (string (codes "rw")) (member (codes "vaddr") (integer (pos 33554432)) no_members)))) (item (table (member (codes "mr") (string (codes "net_rx")) (member (codes "perms") (string (codes "r")) (member (codes "vaddr") (integer (pos 35651584)) no_members)))) (item (table (member (codes "mr") (string (codes "rxq0")) (member (codes "perms") (string (codes "rw")) (member (codes "vaddr") (integer (pos 37748736)) no_members)))) (item (table (member (codes "mr") (string (codes "rx0")) (member (codes "perms") (string (codes "rw")) (member (codes "vaddr") (integer (pos 39845888)) no_members)))) no_items))))) (member (codes "name") (string (codes "copy0")) (member (codes "priority") (integer (pos 98)) (member (codes "program") (string (codes "net_copier")) no_members)))

domains_items_0 : (n : ℕ) (found : Items) (rest : List ℕ) → items (val 79) (suc (suc (suc (suc n)))) found (domains_text_0 ++ rest) ≡ items (val 79) n (push_item (push_item (push_item (push_item found (table domain_0)) (table domain_1)) (table domain_2)) (table domain_3)) rest
unfolding toml_on_literals domains_text_0 domain_0 domain_1 domain_2 domain_3
domains_items_0 n found rest = refl

domains_text_1 : List ℕ
domains_text_1 = codes "\n {name=\"copy1\", priority=98, program=\"net_copier\", map=[\n  {mr=\"lease1\", vaddr=0x2000000, perms=\"rw\"}, {mr=\"net_rx\", vaddr=0x2200000, perms=\"r\"},\n  {mr=\"rxq1\", vaddr=0x2400000, perms=\"rw\"}, {mr=\"rx1\", vaddr=0x2600000, perms=\"rw\"}]},\n {name=\"app0\", priority=90, program=\"net_source\", map=[\n  {mr=\"rxq0\", vaddr=0x2000000, perms=\"rw\"}, {mr=\"rx0\", vaddr=0x2200000, perms=\"rw\"},\n  {mr=\"txq0\", vaddr=0x2400000, perms=\"rw\"}, {mr=\"tx0\", vaddr=0x2600000, perms=\"rw\"}]},\n {name=\"app1\", priority=90, program=\"net_echo\", map=[\n  {mr=\"rxq1\", vaddr=0x2000000, perms=\"rw\"}, {mr=\"rx1\", vaddr=0x2200000, perms=\"rw\"},\n  {mr=\"txq1\", vaddr=0x2400000, perms=\"rw\"}, {mr=\"tx1\", vaddr=0x2600000, perms=\"rw\"}]},\n {name=\"uart\", priority=100, program=\"uart_driver\", irq=[{irq=33, id=0}], map=[\n  {mr=\"s_rx\", vaddr=0x2000000, perms=\"rw\"}, {mr=\"s_tx\", vaddr=0x2200000, perms=\"rw\"}]},"

unfoldable pub domain_4 : Members
domain_4 = member (codes "map") (array (item (table (member (codes "mr") (string (codes "lease1")) (member (codes "perms") (string (codes "rw")) (member (codes "vaddr") (integer (pos 33554432)) no_members)))) (item (table (member (codes "mr") (string (codes "net_rx")) (member (codes "perms") (string (codes "r")) (member (codes "vaddr") (integer (pos 35651584)) no_members)))) (item (table (member (codes "mr") (string (codes "rxq1")) (member (codes "perms") (string (codes "rw")) (member (codes "vaddr") (integer (pos 37748736)) no_members)))) (item (table (member (codes "mr") (string (codes "rx1")) (member (codes "perms") (string (codes "rw")) (member (codes "vaddr") (integer (pos 39845888)) no_members)))) no_items))))) (member (codes "name") (string (codes "copy1")) (member (codes "priority") (integer (pos 98)) (member (codes "program") (string (codes "net_copier")) no_members)))

unfoldable pub domain_5 : Members
domain_5 = member (codes "map") (array (item (table (member (codes "mr") (string (codes "rxq0")) (member (codes "perms") (string (codes "rw")) (member (codes "vaddr") (integer (pos 33554432)) no_members)))) (item (table (member (codes "mr") (string (codes "rx0")) (member (codes "perms") (string (codes "rw")) (member (codes "vaddr") (integer (pos 35651584)) no_members)))) (item (table (member (codes "mr") (string (codes "txq0")) (member (codes "perms") (string (codes "rw")) (member (codes "vaddr") (integer (pos 37748736)) no_members)))) (item (table (member (codes "mr") (string (codes "tx0")) (member (codes "perms") (string (codes "rw")) (member (codes "vaddr") (integer (pos 39845888)) no_members)))) no_items))))) (member (codes "name") (string (codes "app0")) (member (codes "priority") (integer (pos 90)) (member (codes "program") (string (codes "net_source")) no_members)))

unfoldable pub domain_6 : Members
domain_6 = member (codes "map") (array (item (table (member (codes "mr") (string (codes "rxq1")) (member (codes "perms") (string (codes "rw")) (member (codes "vaddr") (integer (pos 33554432)) no_members)))) (item (table (member (codes "mr") (string (codes "rx1")) (member (codes "perms") (string (codes "rw")) (member (codes "vaddr") (integer (pos 35651584)) no_members)))) (item (table (member (codes "mr") (string (codes "txq1")) (member (codes "perms") (string (codes "rw")) (member (codes "vaddr") (integer (pos 37748736)) no_members)))) (item (table (member (codes "mr") (string (codes "tx1")) (member (codes "perms") (string (codes "rw")) (member (codes "vaddr") (integer (pos 39845888)) no_members)))) no_items))))) (member (codes "name") (string (codes "app1")) (member (codes "priority") (integer (pos 90)) (member (codes "program") (string (codes "net_echo")) no_members)))

unfoldable pub domain_7 : Members
domain_7 = member (codes "irq") (array (item (table (member (codes "id") (integer (pos 0)) (member (codes "irq") (integer (pos 33)) no_members))) no_items)) (member (codes "map") (array (item (table (member (codes "mr") (string (codes "s_rx")) (member (codes "perms") (string (codes "rw")) (member (codes "vaddr") (integer (pos 33554432)) no_members)))) (item (table (member (codes "mr") (string (codes "s_tx")) (member (codes "perms") (string (codes "rw")) (member (codes "vaddr") (integer (pos 35651584)) no_members)))) no_items))) (member (codes "name") (string (codes "uart")) (member (codes "priority") (integer (pos 100)) (member (codes "program") (string (codes "uart_driver")) no_members))))

domains_items_1 : (n : ℕ) (found : Items) (rest : List ℕ) → items (val 79) (suc (suc (suc (suc n)))) found (domains_text_1 ++ rest) ≡ items (val 79) n (push_item (push_item (push_item (push_item found (table domain_4)) (table domain_5)) (table domain_6)) (table domain_7)) rest
unfolding toml_on_literals domains_text_1 domain_4 domain_5 domain_6 domain_7
domains_items_1 n found rest = refl

domains_text_2 : List ℕ
domains_text_2 = codes "\n {name=\"ser_rx\", priority=99, program=\"serial_virt_rx\", map=[{mr=\"s_rx\", vaddr=0x2000000, perms=\"rw\"},\n  {mr=\"s_rx0\", vaddr=0x2200000, perms=\"rw\"}, {mr=\"s_rx1\", vaddr=0x2400000, perms=\"rw\"}]},\n {name=\"ser_tx\", priority=99, program=\"serial_virt_tx\", map=[{mr=\"s_tx\", vaddr=0x2000000, perms=\"rw\"},\n  {mr=\"s_tx0\", vaddr=0x2200000, perms=\"rw\"}, {mr=\"s_tx1\", vaddr=0x2400000, perms=\"rw\"}]},\n {name=\"term0\", priority=1, program=\"serial_speaker\", map=[\n  {mr=\"s_rx0\", vaddr=0x2000000, perms=\"rw\"}, {mr=\"s_tx0\", vaddr=0x2200000, perms=\"rw\"}]},\n {name=\"term1\", priority=1, program=\"serial_reader\", map=[\n  {mr=\"s_rx1\", vaddr=0x2000000, perms=\"rw\"}, {mr=\"s_tx1\", vaddr=0x2200000, perms=\"rw\"}]},"

unfoldable pub domain_8 : Members
domain_8 = member (codes "map") (array (item (table (member (codes "mr") (string (codes "s_rx")) (member (codes "perms") (string (codes "rw")) (member (codes "vaddr") (integer (pos 33554432)) no_members)))) (item (table (member (codes "mr") (string (codes "s_rx0")) (member (codes "perms") (string (codes "rw")) (member (codes "vaddr") (integer (pos 35651584)) no_members)))) (item (table (member (codes "mr") (string (codes "s_rx1")) (member (codes "perms") (string (codes "rw")) (member (codes "vaddr") (integer (pos 37748736)) no_members)))) no_items)))) (member (codes "name") (string (codes "ser_rx")) (member (codes "priority") (integer (pos 99)) (member (codes "program") (string (codes "serial_virt_rx")) no_members)))

unfoldable pub domain_9 : Members
domain_9 = member (codes "map") (array (item (table (member (codes "mr") (string (codes "s_tx")) (member (codes "perms") (string (codes "rw")) (member (codes "vaddr") (integer (pos 33554432)) no_members)))) (item (table (member (codes "mr") (string (codes "s_tx0")) (member (codes "perms") (string (codes "rw")) (member (codes "vaddr") (integer (pos 35651584)) no_members)))) (item (table (member (codes "mr") (string (codes "s_tx1")) (member (codes "perms") (string (codes "rw")) (member (codes "vaddr") (integer (pos 37748736)) no_members)))) no_items)))) (member (codes "name") (string (codes "ser_tx")) (member (codes "priority") (integer (pos 99)) (member (codes "program") (string (codes "serial_virt_tx")) no_members)))

unfoldable pub domain_10 : Members
domain_10 = member (codes "map") (array (item (table (member (codes "mr") (string (codes "s_rx0")) (member (codes "perms") (string (codes "rw")) (member (codes "vaddr") (integer (pos 33554432)) no_members)))) (item (table (member (codes "mr") (string (codes "s_tx0")) (member (codes "perms") (string (codes "rw")) (member (codes "vaddr") (integer (pos 35651584)) no_members)))) no_items))) (member (codes "name") (string (codes "term0")) (member (codes "priority") (integer (pos 1)) (member (codes "program") (string (codes "serial_speaker")) no_members)))

unfoldable pub domain_11 : Members
domain_11 = member (codes "map") (array (item (table (member (codes "mr") (string (codes "s_rx1")) (member (codes "perms") (string (codes "rw")) (member (codes "vaddr") (integer (pos 33554432)) no_members)))) (item (table (member (codes "mr") (string (codes "s_tx1")) (member (codes "perms") (string (codes "rw")) (member (codes "vaddr") (integer (pos 35651584)) no_members)))) no_items))) (member (codes "name") (string (codes "term1")) (member (codes "priority") (integer (pos 1)) (member (codes "program") (string (codes "serial_reader")) no_members)))

domains_items_2 : (n : ℕ) (found : Items) (rest : List ℕ) → items (val 79) (suc (suc (suc (suc n)))) found (domains_text_2 ++ rest) ≡ items (val 79) n (push_item (push_item (push_item (push_item found (table domain_8)) (table domain_9)) (table domain_10)) (table domain_11)) rest
unfolding toml_on_literals domains_text_2 domain_8 domain_9 domain_10 domain_11
domains_items_2 n found rest = refl

domains_text_3 : List ℕ
domains_text_3 = codes "\n {name=\"disk\", priority=100, program=\"blk_driver\", irq=[{irq=48, id=0}], map=[\n  {mr=\"b_q\", vaddr=0x2000000, perms=\"rw\"}]},\n {name=\"blkv\", priority=99, program=\"blk_virt\", map=[\n  {mr=\"b_q\", vaddr=0x2000000, perms=\"rw\"}, {mr=\"b_mbr\", vaddr=0x2200000, perms=\"rw\"},\n  {mr=\"b_q0\", vaddr=0x2400000, perms=\"rw\"}, {mr=\"b_q1\", vaddr=0x2600000, perms=\"rw\"}]},\n {name=\"fs0\", priority=1, program=\"blk_script\", map=[\n  {mr=\"b_q0\", vaddr=0x2000000, perms=\"rw\"}, {mr=\"b_d0\", vaddr=0x2200000, perms=\"rw\"}]},\n {name=\"fs1\", priority=1, program=\"blk_script\", map=[\n  {mr=\"b_q1\", vaddr=0x2000000, perms=\"rw\"}, {mr=\"b_d1\", vaddr=0x2200000, perms=\"rw\"}]},"

unfoldable pub domain_12 : Members
domain_12 = member (codes "irq") (array (item (table (member (codes "id") (integer (pos 0)) (member (codes "irq") (integer (pos 48)) no_members))) no_items)) (member (codes "map") (array (item (table (member (codes "mr") (string (codes "b_q")) (member (codes "perms") (string (codes "rw")) (member (codes "vaddr") (integer (pos 33554432)) no_members)))) no_items)) (member (codes "name") (string (codes "disk")) (member (codes "priority") (integer (pos 100)) (member (codes "program") (string (codes "blk_driver")) no_members))))

unfoldable pub domain_13 : Members
domain_13 = member (codes "map") (array (item (table (member (codes "mr") (string (codes "b_q")) (member (codes "perms") (string (codes "rw")) (member (codes "vaddr") (integer (pos 33554432)) no_members)))) (item (table (member (codes "mr") (string (codes "b_mbr")) (member (codes "perms") (string (codes "rw")) (member (codes "vaddr") (integer (pos 35651584)) no_members)))) (item (table (member (codes "mr") (string (codes "b_q0")) (member (codes "perms") (string (codes "rw")) (member (codes "vaddr") (integer (pos 37748736)) no_members)))) (item (table (member (codes "mr") (string (codes "b_q1")) (member (codes "perms") (string (codes "rw")) (member (codes "vaddr") (integer (pos 39845888)) no_members)))) no_items))))) (member (codes "name") (string (codes "blkv")) (member (codes "priority") (integer (pos 99)) (member (codes "program") (string (codes "blk_virt")) no_members)))

unfoldable pub domain_14 : Members
domain_14 = member (codes "map") (array (item (table (member (codes "mr") (string (codes "b_q0")) (member (codes "perms") (string (codes "rw")) (member (codes "vaddr") (integer (pos 33554432)) no_members)))) (item (table (member (codes "mr") (string (codes "b_d0")) (member (codes "perms") (string (codes "rw")) (member (codes "vaddr") (integer (pos 35651584)) no_members)))) no_items))) (member (codes "name") (string (codes "fs0")) (member (codes "priority") (integer (pos 1)) (member (codes "program") (string (codes "blk_script")) no_members)))

unfoldable pub domain_15 : Members
domain_15 = member (codes "map") (array (item (table (member (codes "mr") (string (codes "b_q1")) (member (codes "perms") (string (codes "rw")) (member (codes "vaddr") (integer (pos 33554432)) no_members)))) (item (table (member (codes "mr") (string (codes "b_d1")) (member (codes "perms") (string (codes "rw")) (member (codes "vaddr") (integer (pos 35651584)) no_members)))) no_items))) (member (codes "name") (string (codes "fs1")) (member (codes "priority") (integer (pos 1)) (member (codes "program") (string (codes "blk_script")) no_members)))

domains_items_3 : (n : ℕ) (found : Items) (rest : List ℕ) → items (val 79) (suc (suc (suc (suc n)))) found (domains_text_3 ++ rest) ≡ items (val 79) n (push_item (push_item (push_item (push_item found (table domain_12)) (table domain_13)) (table domain_14)) (table domain_15)) rest
unfolding toml_on_literals domains_text_3 domain_12 domain_13 domain_14 domain_15
domains_items_3 n found rest = refl

tail_text : List ℕ
tail_text = codes "[net]\ndriver = \"eth\"\nrx_virt = \"net_rx\"\ntx_virt = \"net_tx\"\nrx_region = \"net_rx\"\nrx_buffers = 512\nrx_capacity = 512\nrx_queues = \"net_rxq\"\ntx_capacity = 1024\ntx_queues = \"net_txq\"\nclient = [\n {pd=\"app0\", copier=\"copy0\", mac=\"02:00:00:00:00:01\", lease_queues=\"lease0\", rx_region=\"rx0\", rx_buffers=512, rx_capacity=512, rx_queues=\"rxq0\", tx_region=\"tx0\", tx_buffers=512, tx_capacity=512, tx_queues=\"txq0\"},\n {pd=\"app1\", copier=\"copy1\", mac=\"02:00:00:00:00:02\", lease_queues=\"lease1\", rx_region=\"rx1\", rx_buffers=512, rx_capacity=512, rx_queues=\"rxq1\", tx_region=\"tx1\", tx_buffers=512, tx_capacity=512, tx_queues=\"txq1\"},\n]\n[serial]\ndriver = \"uart\"\nrx_virt = \"ser_rx\"\ntx_virt = \"ser_tx\"\nrx_capacity = 256\nrx_queues = \"s_rx\"\ntx_capacity = 256\ntx_queues = \"s_tx\"\nclient = [\n {pd=\"term0\", rx_capacity=256, rx_queues=\"s_rx0\", tx_capacity=256, tx_queues=\"s_tx0\"},\n {pd=\"term1\", rx_capacity=256, rx_queues=\"s_rx1\", tx_capacity=256, tx_queues=\"s_tx1\"},\n]\n[blk]\ndriver = \"disk\"\nvirt = \"blkv\"\ncapacity = 8\nqueues = \"b_q\"\nregion = \"b_mbr\"\nclient = [\n {pd=\"fs0\", partition=0, region=\"b_d0\", buffers=4, capacity=4, queues=\"b_q0\"},\n {pd=\"fs1\", partition=1, region=\"b_d1\", buffers=4, capacity=4, queues=\"b_q1\"},\n]\n"

unfoldable pub net_table : Members
net_table = member (codes "client") (array (item (table (member (codes "copier") (string (codes "copy0")) (member (codes "lease_queues") (string (codes "lease0")) (member (codes "mac") (string (codes "02:00:00:00:00:01")) (member (codes "pd") (string (codes "app0")) (member (codes "rx_buffers") (integer (pos 512)) (member (codes "rx_capacity") (integer (pos 512)) (member (codes "rx_queues") (string (codes "rxq0")) (member (codes "rx_region") (string (codes "rx0")) (member (codes "tx_buffers") (integer (pos 512)) (member (codes "tx_capacity") (integer (pos 512)) (member (codes "tx_queues") (string (codes "txq0")) (member (codes "tx_region") (string (codes "tx0")) no_members))))))))))))) (item (table (member (codes "copier") (string (codes "copy1")) (member (codes "lease_queues") (string (codes "lease1")) (member (codes "mac") (string (codes "02:00:00:00:00:02")) (member (codes "pd") (string (codes "app1")) (member (codes "rx_buffers") (integer (pos 512)) (member (codes "rx_capacity") (integer (pos 512)) (member (codes "rx_queues") (string (codes "rxq1")) (member (codes "rx_region") (string (codes "rx1")) (member (codes "tx_buffers") (integer (pos 512)) (member (codes "tx_capacity") (integer (pos 512)) (member (codes "tx_queues") (string (codes "txq1")) (member (codes "tx_region") (string (codes "tx1")) no_members))))))))))))) no_items))) (member (codes "driver") (string (codes "eth")) (member (codes "rx_buffers") (integer (pos 512)) (member (codes "rx_capacity") (integer (pos 512)) (member (codes "rx_queues") (string (codes "net_rxq")) (member (codes "rx_region") (string (codes "net_rx")) (member (codes "rx_virt") (string (codes "net_rx")) (member (codes "tx_capacity") (integer (pos 1024)) (member (codes "tx_queues") (string (codes "net_txq")) (member (codes "tx_virt") (string (codes "net_tx")) no_members)))))))))

unfoldable pub serial_table : Members
serial_table = member (codes "client") (array (item (table (member (codes "pd") (string (codes "term0")) (member (codes "rx_capacity") (integer (pos 256)) (member (codes "rx_queues") (string (codes "s_rx0")) (member (codes "tx_capacity") (integer (pos 256)) (member (codes "tx_queues") (string (codes "s_tx0")) no_members)))))) (item (table (member (codes "pd") (string (codes "term1")) (member (codes "rx_capacity") (integer (pos 256)) (member (codes "rx_queues") (string (codes "s_rx1")) (member (codes "tx_capacity") (integer (pos 256)) (member (codes "tx_queues") (string (codes "s_tx1")) no_members)))))) no_items))) (member (codes "driver") (string (codes "uart")) (member (codes "rx_capacity") (integer (pos 256)) (member (codes "rx_queues") (string (codes "s_rx")) (member (codes "rx_virt") (string (codes "ser_rx")) (member (codes "tx_capacity") (integer (pos 256)) (member (codes "tx_queues") (string (codes "s_tx")) (member (codes "tx_virt") (string (codes "ser_tx")) no_members)))))))

unfoldable pub blk_table : Members
blk_table = member (codes "capacity") (integer (pos 8)) (member (codes "client") (array (item (table (member (codes "buffers") (integer (pos 4)) (member (codes "capacity") (integer (pos 4)) (member (codes "partition") (integer (pos 0)) (member (codes "pd") (string (codes "fs0")) (member (codes "queues") (string (codes "b_q0")) (member (codes "region") (string (codes "b_d0")) no_members))))))) (item (table (member (codes "buffers") (integer (pos 4)) (member (codes "capacity") (integer (pos 4)) (member (codes "partition") (integer (pos 1)) (member (codes "pd") (string (codes "fs1")) (member (codes "queues") (string (codes "b_q1")) (member (codes "region") (string (codes "b_d1")) no_members))))))) no_items))) (member (codes "driver") (string (codes "disk")) (member (codes "queues") (string (codes "b_q")) (member (codes "region") (string (codes "b_mbr")) (member (codes "virt") (string (codes "blkv")) no_members)))))

-- the domains, and what stands behind them
domains_more : List ℕ
domains_more = domains_text_0 ++ (domains_text_1 ++ (domains_text_2 ++ (domains_text_3 ++ (codes "\n]\n" ++ (channels_text ++ tail_text)))))

domains_text : List ℕ
domains_text = codes "protection_domain = [" ++ domains_more

unfoldable pub domains : Items
domains = item (table domain_0) (item (table domain_1) (item (table domain_2) (item (table domain_3) (item (table domain_4) (item (table domain_5) (item (table domain_6) (item (table domain_7) (item (table domain_8) (item (table domain_9) (item (table domain_10) (item (table domain_11) (item (table domain_12) (item (table domain_13) (item (table domain_14) (item (table domain_15) no_items)))))))))))))))

domains_found : push_item (push_item (push_item (push_item (push_item (push_item (push_item (push_item (push_item (push_item (push_item (push_item (push_item (push_item (push_item (push_item no_items (table domain_0)) (table domain_1)) (table domain_2)) (table domain_3)) (table domain_4)) (table domain_5)) (table domain_6)) (table domain_7)) (table domain_8)) (table domain_9)) (table domain_10)) (table domain_11)) (table domain_12)) (table domain_13)) (table domain_14)) (table domain_15) ≡ domains
unfolding domains
domains_found = refl

domains_end : (n : ℕ) (found : Items) (rest : List ℕ) → items (val 79) (suc n) found (codes "\n]\n" ++ rest) ≡ Some (found, 10 ∷ rest)
unfolding toml_on_literals
domains_end n found rest = refl

domains_length : length domains_more ≡ 5088
unfolding domains_more domains_text_0 domains_text_1 domains_text_2 domains_text_3 channels_text tail_text
domains_length = refl

domains_items : items (val 79) 5089 no_items domains_more ≡ Some (domains, 10 ∷ (channels_text ++ tail_text))
unfolding domains_more
domains_items =
    domains_items_0 5085 _ _ ∙ domains_items_1 5081 _ _ ∙ domains_items_2 5077 _ _ ∙ domains_items_3 5073 _ _
    ∙ domains_end 5072 _ _ ∙ ap (λ found. Some (found, 10 ∷ (channels_text ++ tail_text))) domains_found

abbrev array_read : Option (Items × List ℕ) → Option (Expression × List ℕ)
array_read r =
    read_map (λ (p : Key × Data). (p.0, key_value p.1)) (read_map (λ (d : Data). (([], codes "protection_domain"), d)) (read_map array r))

domains_start : (more : List ℕ) → expression (codes "protection_domain = [" ++ more) ≡ array_read (items (val 79) (suc (length more)) no_items more)
unfolding toml_on_literals
domains_start more = refl

domains_line : expression domains_text ≡ Some ((([], codes "protection_domain"), key_value (array domains)), 10 ∷ (channels_text ++ tail_text))
unfolding domains_text
domains_line =
    domains_start domains_more
    ∙ ap (λ (n : ℕ). array_read (items (val 79) (suc n) no_items domains_more)) domains_length
    ∙ ap array_read domains_items

-- one more line read
lines_step : (n : ℕ) (doc next : Document) (text start rest : List ℕ) (e : Expression) → skip_blank text ≡ start → (length start == 0) ≡ false → expression start ≡ Some (e, rest)
    → ends_line (skip_ws rest) ≡ true → define doc e ≡ Some next → lines (suc n) doc text ≡ lines n next rest
unfolding lines line
lines_step n doc next text start rest e skipped some read ends defined = rw (skipped, some, read, ends, defined) refl

nodes_1 : Nodes
nodes_1 = node (codes "memory_region") (value (array regions)) no_nodes

nodes_2 : Nodes
nodes_2 = node (codes "memory_region") (value (array regions)) (node (codes "protection_domain") (value (array domains)) no_nodes)

nodes_3 : Nodes
nodes_3 = node (codes "channel") (value (array channels)) (node (codes "memory_region") (value (array regions)) (node (codes "protection_domain") (value (array domains)) no_nodes))

-- the whole document
unfoldable pub root : Members
root =
    member (codes "blk") (table blk_table) (member (codes "channel") (array channels) (member (codes "memory_region") (array regions)
    (member (codes "net") (table net_table) (member (codes "protection_domain") (array domains) (member (codes "serial") (table serial_table) no_members)))))

not_empty : (c : ℕ) (rest : List ℕ) → (length (c ∷ rest) == 0) ≡ false
not_empty c rest = elim (cases_Bool (length (c ∷ rest) == 0)) [
  | inl is ↦ absurd (let e = eqb-true (length (c ∷ rest)) 0 is in omega arith)
  | inr isnt ↦ isnt
]

line_ends : (rest : List ℕ) → ends_line (skip_ws (10 ∷ rest)) ≡ true
unfolding skip_ws
line_ends rest = rw (not_empty 10 rest) refl

regions_some : (length (regions_text ++ domains_text) == 0) ≡ false
unfolding regions_text
regions_some = not_empty 109 (drop 1 (regions_text ++ domains_text))

regions_front : skip_blank (regions_text ++ domains_text) ≡ regions_text ++ domains_text
unfolding skip_from regions_text
regions_front = refl

domains_some : (length domains_text == 0) ≡ false
unfolding domains_text
domains_some = not_empty 112 (drop 1 domains_text)

domains_front : skip_blank (10 ∷ domains_text) ≡ domains_text
unfolding skip_from domains_text
domains_front = refl

channels_some : (length (channels_text ++ tail_text) == 0) ≡ false
unfolding channels_text
channels_some = not_empty 99 (drop 1 (channels_text ++ tail_text))

channels_front : skip_blank (10 ∷ (channels_text ++ tail_text)) ≡ channels_text ++ tail_text
unfolding skip_from channels_text
channels_front = refl

regions_defined : define (no_nodes, []) (([], codes "memory_region"), key_value (array regions)) ≡ Some (nodes_1, [])
unfolding nodes_1 toml_on_literals
regions_defined = refl

domains_defined : define (nodes_1, []) (([], codes "protection_domain"), key_value (array domains)) ≡ Some (nodes_2, [])
unfolding nodes_1 nodes_2 toml_on_literals
domains_defined = refl

channels_defined : define (nodes_2, []) (([], codes "channel"), key_value (array channels)) ≡ Some (nodes_3, [])
unfolding nodes_2 nodes_3 toml_on_literals
channels_defined = refl

first_step : lines 5889 (no_nodes, []) (regions_text ++ domains_text) ≡ lines 5888 (nodes_1, []) (10 ∷ domains_text)
first_step =
    lines_step 5888 (no_nodes, []) (nodes_1, []) (regions_text ++ domains_text) (regions_text ++ domains_text) (10 ∷ domains_text) (([], codes "memory_region"), key_value (array regions))
    regions_front regions_some (regions_line domains_text) (line_ends domains_text) regions_defined

second_step : lines 5888 (nodes_1, []) (10 ∷ domains_text) ≡ lines 5887 (nodes_2, []) (10 ∷ (channels_text ++ tail_text))
second_step =
    lines_step 5887 (nodes_1, []) (nodes_2, []) (10 ∷ domains_text) domains_text (10 ∷ (channels_text ++ tail_text)) (([], codes "protection_domain"), key_value (array domains))
    domains_front domains_some domains_line (line_ends (channels_text ++ tail_text)) domains_defined

third_step : lines 5887 (nodes_2, []) (10 ∷ (channels_text ++ tail_text)) ≡ lines 5886 (nodes_3, []) (10 ∷ tail_text)
third_step =
    lines_step 5886 (nodes_2, []) (nodes_3, []) (10 ∷ (channels_text ++ tail_text)) (channels_text ++ tail_text) (10 ∷ tail_text) (([], codes "channel"), key_value (array channels))
    channels_front channels_some (channels_line tail_text) (line_ends tail_text) channels_defined

last_steps : option_map (λ (doc : Document). close doc.0) (lines 5886 (nodes_3, []) (10 ∷ tail_text)) ≡ Some root
unfolding nodes_3 toml_on_literals tail_text root blk_table net_table serial_table
last_steps = refl

full_text : FULL_EXAMPLE.now ≡ regions_text ++ domains_text
unfolding regions_text domains_text domains_more domains_text_0 domains_text_1 domains_text_2 domains_text_3 channels_text tail_text
full_text = refl

full_length : length FULL_EXAMPLE.now ≡ 5888
full_length = refl

no_mark : skip_bom (regions_text ++ domains_text) ≡ regions_text ++ domains_text
unfolding toml_on_literals regions_text
no_mark = refl

-- the text is this document
pub full_document : parse_document FULL_EXAMPLE.now ≡ Some root
unfolding parse_document
full_document =
    ap (λ (n : ℕ). option_map (λ (doc : Document). close doc.0) (lines (suc n) (no_nodes, []) (skip_bom FULL_EXAMPLE.now))) full_length
    ∙ ap (λ text. option_map (λ (doc : Document). close doc.0) (lines 5889 (no_nodes, []) (skip_bom text))) full_text
    ∙ ap (λ text. option_map (λ (doc : Document). close doc.0) (lines 5889 (no_nodes, []) text)) no_mark
    ∙ ap (λ doc. option_map (λ (doc : Document). close doc.0) doc) (first_step ∙ second_step ∙ third_step)
    ∙ last_steps

source_there : is_source (plan_of root) 0 ≡ true
unfolding is_source root net_table domains domain_0 domain_1 domain_2 domain_3 domain_4 domain_5
source_there = refl

speaker_there : is_speaker (plan_of root) 0 ≡ true
unfolding is_speaker root serial_table domains domain_0 domain_1 domain_2 domain_3 domain_4 domain_5 domain_6 domain_7 domain_8 domain_9 domain_10
speaker_there = refl

first_disk_there : is_script (plan_of root) 0 ≡ true
unfolding is_script root blk_table domains domain_0 domain_1 domain_2 domain_3 domain_4 domain_5 domain_6 domain_7 domain_8 domain_9 domain_10 domain_11 domain_12 domain_13 domain_14
first_disk_there = refl

second_disk_there : is_script (plan_of root) 1 ≡ true
unfolding is_script root blk_table domains domain_0 domain_1 domain_2 domain_3 domain_4 domain_5 domain_6 domain_7 domain_8 domain_9 domain_10 domain_11 domain_12 domain_13 domain_14 domain_15
second_disk_there = refl

longest_there : frame_most (plan_of root) ≡ 1514
unfolding root net_table frame_most
longest_there = refl

-- the plan has the clients that the generated traces are for
pub full_clients : HasClients (plan_of root)
unfolding root
full_clients = record {
  net = refl;
  serial = refl;
  blk = refl;
  longest = omega (arith, longest_there);
  source = source_there;
  speaker = speaker_there;
  first_disk = first_disk_there;
  second_disk = second_disk_there;
}

-- what an answer unfolds to compute on the whole document
unfoldable pub whole_example : ⊤
unfolding root regions channels net_table serial_table blk_table domains domain_0 domain_1 domain_2 domain_3 domain_4 domain_5 domain_6 domain_7 domain_8 domain_9 domain_10 domain_11 domain_12 domain_13 domain_14 domain_15
whole_example = tt

pub full_short : length FULL_EXAMPLE.now ≤ text_most
full_short = let long = full_length in omega (arith, long)
