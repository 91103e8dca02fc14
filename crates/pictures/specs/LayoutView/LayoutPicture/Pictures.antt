-- The whole picture of a layout.
use Rattle.std.specs.Prelude.{ℕ, ◌+◌, ◌-◌, ◌*◌, ◌<◌, ◌≤◌, ◌^◌, List, [], ◌∷◌, ◌++◌, length, min}
use Rattle.std.specs.Prelude.{max, slice_index, codes}
use Rattle.std.specs.List.{fold}
use Rattle.std.specs.Fmt.{decimal}
use Rattle.wire_core.specs.declared.names.PoolRow.{PoolRow}
use Rattle.wire_core.specs.declared.names.QueueRow.{QueueRow}
use Rattle.sdf_plan.specs.declared.plan.Channel.{Channel}
use Rattle.sdf_plan.specs.declared.plan.Plan.{Plan}
use Rattle.sdf_plan.specs.declared.plan.Region.{Region}
use Rattle.picture_kit.specs.declared.ink.Ink.TheVariants as In
use Rattle.picture_kit.specs.declared.shape.Picture.{Picture}
use Rattle.picture_kit.specs.declared.shape.Shape.{Shape}
use Rattle.picture_kit.specs.Shapes.{words}
use Rattle.pictures.specs.declared.layout_view.layout_picture.cards.Card.{Card}
use Rattle.pictures.specs.declared.layout_view.layout_picture.grid.Grid.{Grid}
use Rattle.pictures.specs.LayoutView.LayoutPicture.Names.{name_at}
use Rattle.pictures.specs.LayoutView.LayoutPicture.Grid.{queue_y, channel_y, region_y, width, height}
use Rattle.pictures.specs.LayoutView.LayoutPicture.Cards.{cards_of, card_shapes, draw_each}
use Rattle.pictures.specs.LayoutView.LayoutPicture.Queues.{queue_shapes}
use Rattle.pictures.specs.LayoutView.LayoutPicture.Channels.{channel_shapes}
use Rattle.pictures.specs.LayoutView.LayoutPicture.Memory.{scale_of, region_shapes, pool_shapes}
use Rattle.pictures.specs.LayoutView.LayoutPicture.Owners.{owners_of}

-- how long the longest name of a queue is; names past 900 count as 900
abbrev pub longest_queue : ℕ → List QueueRow → ℕ
longest_queue least queues =
    fold (λ most (q : QueueRow). max most (min (length q.name) 900)) least queues

-- how long the longest name of a region is
abbrev pub longest_region : ℕ → List Region → ℕ
longest_region least regions =
    fold (λ most (r : Region). max most (min (length r.name) 900)) least regions

-- how long the longest name or program in a box is, and at least so long
abbrev pub longest_card : ℕ → List Card → ℕ
longest_card least cards =
    fold (λ most (c : Card). max (max most (min (length c.name) 1000))
    (min (length c.program) 1000)) least cards

-- the columns and rows of a picture: behind the name of a queue there are 15 letters for what it
-- carries and its capacity, and behind the name of a region 13 for a place in it
abbrev pub grid_of : Plan → List QueueRow → List PoolRow → List Card → Grid
grid_of plan queues pools cards = record {
  label = longest_queue 0 queues + 15;
  place = longest_region 0 plan.memory_region + 13;
  letters = longest_card 12 cards;
  columns = length cards;
  queues = length queues;
  channels = length plan.channel;
  regions = length plan.memory_region;
  pools = length pools;
}

-- how many boxes, queues and channels there are, in words
abbrev pub rows_text : Grid → List ℕ
rows_text g =
    decimal g.columns ++ (codes " boxes, " ++ (decimal g.queues ++ (codes " queues, "
    ++ (decimal g.channels ++ codes " channels, "))))

-- what a picture shows, for those who don't see it
abbrev pub about_text : Grid → List ℕ
about_text g =
    rows_text g ++ (decimal g.regions ++ (codes " regions, " ++ (decimal g.pools
    ++ codes " pools")))

-- the words above a part
abbrev pub heading : ℕ → List ℕ → List Shape
heading y text = words In.Heading 16 y text ∷ []

-- the boxes, each once
unfoldable pub card_part : Grid → List Card → List Shape
card_part g cards =
    heading 28 (codes "Layout") ++ draw_each (card_shapes g) 0 cards

-- the queues, each once
unfoldable pub queue_part : Grid → List Card → List Region → List (List ℕ) → List QueueRow
    → List Shape
queue_part g cards regions actors queues =
    heading (queue_y 0 - 24) (codes "Queues")
    ++ draw_each (queue_shapes g cards regions actors) 0 queues

-- the channels, each once
unfoldable pub channel_part : Grid → List Card → List Channel → List Shape
channel_part g cards channels =
    heading (channel_y g 0 - 24) (codes "Channels")
    ++ draw_each (channel_shapes g cards) 0 channels

-- the regions, and then the pools in them, each once
unfoldable pub memory_part : Grid → List Card → List Region → List ℕ → List (List ℕ) → List PoolRow
    → List Shape
memory_part g cards regions bases owners pools =
    heading (region_y g 0 - 24) (codes "Memory")
    ++ draw_each (λ r region. region_shapes g (scale_of regions) (slice_index bases r) r region) 0
    regions
    ++ draw_each (λ k pool. pool_shapes g (scale_of regions) cards (name_at owners k) pool) 0 pools

-- all shapes: the boxes, and below them the queues, the channels and the memory
unfoldable pub shapes_of : Plan → List ℕ → List QueueRow → List PoolRow → List (List ℕ) → List Card
    → Grid → List Shape
shapes_of plan bases queues pools actors cards g =
    card_part g cards ++ queue_part g cards plan.memory_region actors queues
    ++ channel_part g cards plan.channel
    ++ memory_part g cards plan.memory_region bases (owners_of plan) pools

-- the picture of a layout
abbrev pub picture_of : Plan → List ℕ → List QueueRow → List PoolRow → List (List ℕ) → Picture
picture_of plan bases queues pools actors =
    let cards = cards_of plan in
    let g = grid_of plan queues pools cards in
    record {
      width = width g;
      height = height g;
      title = codes "Layout";
      about = about_text g;
      shapes = shapes_of plan bases queues pools actors cards g;
    }

-- the rows of a layout have numbers of 32 bits, but for the queues, which are more
pub record IsDrawable (plan : Plan) (queues : List QueueRow) : Type 0 where
  pub few_domains : length plan.protection_domain < 2 ^ 32
  pub few_regions : length plan.memory_region < 2 ^ 32
  pub few_channels : length plan.channel < 2 ^ 32
  pub few_queues : length queues ≤ 2 ^ 40
