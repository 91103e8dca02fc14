-- Where the device and the copiers wait, nothing is dropped.
use Rattle.std.proofs.Common.{◌≡◌, ◌+◌, ℕ, zero, suc, Bool, true, false, cond, Some, List, [], ◌∷◌, length, map, slice_get, flat_map, refl, sym, ap, ap₂, ◌∙◌, subst, arith}
use Rattle.std.proofs.lemmas.List.{length-map}
use Rattle.cargo_core.specs.declared.item.Item.{Item}
use Rattle.frame_core.specs.declared.mac.Mac.{Mac}
use Rattle.frame_core.specs.Frames.{turned_round}
use Rattle.wire_core.specs.declared.names.Event.{Event}
use Rattle.wire_core.specs.Ends.{Consumer}
use Rattle.play_core.specs.Moved.{Moved}
use Rattle.play_core.specs.Sheets.{Scene}
use Rattle.play_core.specs.Totals.{total}
use Rattle.class_expect.specs.NetExpect.Expecting.{Program, Sink, Source, Echo, frames_for, sends_of}
use Rattle.buffer_kit.specs.Entries.{len_of}
use Rattle.net_law.specs.Dropped.{Marks, left_for, sends_upon, told_leases, told_used}
use Rattle.net_law.specs.Parts.Numbers.{client_first}
use Rattle.net_law.specs.Parts.Rows.{accepted_by, answer_len, sent_lens}
use Rattle.net_law.specs.TxParts.Numbers.{NetPlace}
use Rattle.net_law.proofs.DropsLemmas.Sending.{sends_all}
use Rattle.net_quiet.specs.Holding.{NetHolds, HoldingArrives, HoldingSends, holding_sends}
use Rattle.net_quiet.specs.Still.{ArrivesAll, SendsAll, copier_gone, lens_from}
use Rattle.net_quiet.specs.TxCast.Casting.{net_kept, net_marks, sends_at}

pub kept_all : (net : NetPlace) (frames : List (List ℕ)) (calls : List Event) → NetHolds net → net_kept net frames calls ≡ frames
kept_all net frames calls holds = ap (λ b. accepted_by b (told_used b net.first calls) frames) holds.device

none_marked : (net : NetPlace) (k : ℕ) (calls : List Event) → NetHolds net → net_marks net calls k ≡ []
none_marked net k calls holds = ap (λ b. told_leases b (client_first net.first k) (client_first net.first k + 3) calls) (holds.copiers k)

pub left_all : (net : NetPlace) (k : ℕ) (mac : Mac) (frames : List (List ℕ)) (calls : List Event) → NetHolds net → left_for (net_marks net calls k) mac frames ≡ frames_for mac frames
left_all net k mac frames calls holds = ap (λ bs. left_for bs mac frames) (none_marked net k calls holds)

sends_same : (marks : Marks) (frames : List (List ℕ)) → ((k : ℕ) → marks k ≡ []) → (k : ℕ) (programs : List Program) (macs : List Mac) → sends_at marks k programs macs frames ≡ holding_sends programs macs frames
sends_same marks frames none k [] macs = refl
sends_same marks frames none k (p ∷ ps) [] = refl
sends_same marks frames none k (p ∷ ps) (mac ∷ ms) = ap₂ (λ l ls. l ∷ ls) (ap (λ bs. sends_upon p mac (left_for bs mac frames)) (none k) ∙ sends_all p mac frames) (sends_same marks frames none (k + 1) ps ms)

pub sends_all_hold : (net : NetPlace) (frames : List (List ℕ)) (calls : List Event) → NetHolds net → sends_at (net_marks net calls) 0 net.programs net.macs frames ≡ holding_sends net.programs net.macs frames
sends_all_hold net frames calls holds = sends_same (net_marks net calls) frames (λ k. none_marked net k calls holds) 0 net.programs net.macs

none_gone : (net : NetPlace) (m : Moved) (k : ℕ) → NetHolds net → copier_gone net m k ≡ 0
none_gone net m k holds = ap (λ b. cond b (m.noes Consumer (client_first net.first k + 3)) 0) (holds.copiers k)

-- an echo answers each frame that is for it
lens_same : (p : Program) (mac : Mac) (came : List Item) (frames : List (List ℕ)) → length came ≡ length (frames_for mac frames) → length (sent_lens p mac came) ≡ length (sends_of p mac frames)
lens_same Sink mac came frames all = refl
lens_same (Source script) mac came frames all = length-map script (λ (frame : List ℕ). length frame)
lens_same Echo mac came frames all = length-map came (λ (item : Item). answer_len mac (len_of item)) ∙ (all ∙ sym (length-map (frames_for mac frames) (λ (frame : List ℕ). turned_round frame mac)))

total_lens : (first : ℕ) (m : Moved) (frames : List (List ℕ)) (k : ℕ) (programs : List Program) (macs : List Mac) → ((i : ℕ) (mac : Mac) → slice_get macs i ≡ Some mac → length (m.taken (client_first first (k + i) + 2)) ≡ length (frames_for mac frames)) → total (lens_from first m k programs macs) ≡ total (holding_sends programs macs frames)
total_lens first m frames k [] macs all = refl
total_lens first m frames k (p ∷ ps) [] all = refl
total_lens first m frames k (p ∷ ps) (mac ∷ ms) all =
    let plus : k + 0 ≡ k = omega arith in
    let here = ap (λ n. length (m.taken (client_first first n + 2))) (sym plus) ∙ all 0 mac refl in
    let one = lens_same p mac (m.taken (client_first first k + 2)) frames here in
    let rest = total_lens first m frames (k + 1) ps ms (λ i x at. let shift : k + 1 + i ≡ k + suc i = omega arith in ap (λ n. length (m.taken (client_first first n + 2))) shift ∙ all (suc i) x at) in
    omega (arith, one, rest)

module _ (scene : Scene) (frames : List (List ℕ)) (net : NetPlace) (m : Moved) (holds : NetHolds net) (all : ArrivesAll scene frames net m) where
  got_all : (k : ℕ) (mac : Mac) → slice_get net.macs k ≡ Some mac → length (m.taken (client_first net.first k + 2)) ≡ length (frames_for mac scene.frames)
  got_all k mac at = let got = all.got k mac at in let none = none_gone net m k holds in omega (arith, got, none)

  pub arrives_hold : HoldingArrives scene net m
  arrives_hold = record { frames = all.frames_in; received = all.received; leased = all.leased; got = got_all }

  pub sends_hold : SendsAll net m → HoldingSends scene net m
  sends_hold sends = record {
    puts = λ k program mac q of. sends.puts k program mac q of ∙ lens_same program mac (m.taken (client_first net.first k + 2)) scene.frames (got_all k mac of.address);
    wire = sends.wire ∙ total_lens net.first m scene.frames 0 net.programs net.macs (λ i mac at. let plus : 0 + i ≡ i = omega arith in ap (λ n. length (m.taken (client_first net.first n + 2))) plus ∙ got_all i mac at);
  }
