-- The same rows as a graph in DOT: nodes for devices, domains and regions, and edges for queues,
-- channels and pools. Each text stands in quotes.
use Rattle.std.specs.Prelude.{ℕ, List, [], ◌∷◌, ◌++◌, slice_index, codes}
use Rattle.std.specs.List.{flat_map}
use Rattle.std.specs.Fmt.{decimal}
use Rattle.wire_core.specs.declared.names.PoolRow.{PoolRow}
use Rattle.wire_core.specs.declared.names.QueueRow.{QueueRow}
use Rattle.sdf_plan.specs.declared.plan.Channel.{Channel}
use Rattle.sdf_plan.specs.declared.plan.End.{End}
use Rattle.sdf_plan.specs.declared.plan.Plan.{Plan}
use Rattle.sdf_plan.specs.declared.plan.Region.{Region}
use Rattle.picture_kit.specs.Quotes.{quoted}
use Rattle.pictures.specs.declared.layout_view.layout_picture.cards.Card.{Card}
use Rattle.pictures.specs.LayoutView.LayoutPicture.Names.{name_at, region_name}
use Rattle.pictures.specs.LayoutView.LayoutPicture.Cards.{cards_of, draw_each}
use Rattle.pictures.specs.LayoutView.LayoutPicture.Queues.{queue_label, standing}
use Rattle.pictures.specs.LayoutView.LayoutPicture.Memory.{range_text, pool_text}
use Rattle.pictures.specs.LayoutView.LayoutPicture.Owners.{owners_of}

-- a node: its name, and what it is labelled
unfoldable pub node : List ℕ → List ℕ → List ℕ
node name label =
    codes "  " ++ (quoted name ++ (codes " [label=" ++ (quoted label ++ codes "];\n")))

-- the two nodes of an edge
abbrev pub ends_text : List ℕ → List ℕ → List ℕ
ends_text from to = codes "  " ++ (quoted from ++ (codes " -> " ++ quoted to))

-- what an edge looks like, and its label
abbrev pub looks_text : List ℕ → List ℕ → List ℕ
looks_text looks label =
    codes " [" ++ (looks ++ (codes "label=" ++ (quoted label ++ codes "];\n")))

-- an edge from one node to another, with what it looks like and what it is labelled
unfoldable pub edge : List ℕ → List ℕ → List ℕ → List ℕ → List ℕ
edge from to looks label = ends_text from to ++ looks_text looks label

-- two lines of a label
abbrev pub above : List ℕ → List ℕ → List ℕ
above first second = first ++ 10 ∷ second

-- a device or a domain: its name, its program and its priority
abbrev pub card_node : Card → List ℕ
card_node card = node card.name (above card.name (above card.program card.rank))

-- a queue
abbrev pub queue_edge : List Region → List (List ℕ) → QueueRow → List ℕ
queue_edge regions actors queue =
    edge (name_at actors queue.producer.0) (name_at actors queue.consumer.0) []
    (above (queue_label queue) (standing regions queue))

-- the ids by which two ends know a channel
abbrev pub ids_text : ℕ → End → End → List ℕ
ids_text c first second =
    codes "channel " ++ (decimal c ++ (codes ": " ++ (decimal first.id
    ++ (codes ", " ++ decimal second.id))))

-- a channel between its first two ends, with the ids by which they know it
abbrev pub ends_edge : ℕ → List End → List ℕ
ends_edge c [] = []
ends_edge c (end ∷ []) = []
ends_edge c (first ∷ (second ∷ ends)) =
    edge first.pd second.pd (codes "dir=none, style=dashed, ")
    (ids_text c first second)

-- the edge of a channel
abbrev pub channel_edge : ℕ → Channel → List ℕ
channel_edge c channel = ends_edge c channel.end

-- the node of a region bears another name than any domain
abbrev pub region_node_name : List ℕ → List ℕ
region_node_name name = codes "region " ++ name

-- a region: its name, its address and its size
abbrev pub region_node : ℕ → Region → List ℕ
region_node base region =
    node (region_node_name region.name) (above region.name (range_text base region.size))

-- a pool, between its owner and its region
abbrev pub pool_edge : List Region → List ℕ → PoolRow → List ℕ
pool_edge regions owner pool =
    edge owner (region_node_name (region_name regions pool.region))
    (codes "dir=none, style=dotted, ") (pool_text owner pool)

-- what a graph begins with
unfoldable pub graph_begin : List ℕ
graph_begin = codes "digraph system {\n  node [shape=box];\n"

-- the devices and domains, each once
unfoldable pub card_nodes : List Card → List ℕ
card_nodes cards = flat_map card_node cards

-- the queues, each once
unfoldable pub queue_edges : List Region → List (List ℕ) → List QueueRow → List ℕ
queue_edges regions actors queues = flat_map (queue_edge regions actors) queues

-- the channels, each once
unfoldable pub channel_edges : List Channel → List ℕ
channel_edges channels = draw_each channel_edge 0 channels

-- the regions, each once
unfoldable pub region_nodes : List ℕ → List Region → List ℕ
region_nodes bases regions =
    draw_each (λ r region. region_node (slice_index bases r) region) 0 regions

-- the pools, each once
unfoldable pub pool_edges : List Region → List (List ℕ) → List PoolRow → List ℕ
pool_edges regions owners pools =
    draw_each (λ k pool. pool_edge regions (name_at owners k) pool) 0 pools

-- the graph of a layout
unfoldable pub graph_of : Plan → List ℕ → List QueueRow → List PoolRow → List (List ℕ) → List ℕ
graph_of plan bases queues pools actors =
    graph_begin ++ (card_nodes (cards_of plan) ++ (queue_edges plan.memory_region actors queues
    ++ (channel_edges plan.channel ++ (region_nodes bases plan.memory_region
    ++ (pool_edges plan.memory_region (owners_of plan) pools ++ codes "}\n")))))
