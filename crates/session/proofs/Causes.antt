-- A cause that a part of a step had, the whole step had.
use Rattle.std.proofs.Common.{ℕ, Bool, true, false, Option, Some, None, List, [], ◌∷◌, Result}
use Rattle.commands.specs.declared.command.Command.{Command}
use Rattle.commands.specs.declared.command.Command.TheVariants as command
use Rattle.commands.specs.declared.consuming.Subscribe.{Subscribe}
use Rattle.commands.specs.declared.producing.Producer.{Producer}
use Rattle.commands.specs.declared.server_error.ServerError.{ServerError}
use Rattle.frames.specs.declared.frame.Frame.{Frame}
use Rattle.frames.specs.declared.frame.FrameEntry.{FrameEntry}
use Rattle.session.specs.Client.{Play}
use Rattle.session.specs.Consuming as consuming
use Rattle.session.specs.Producing as producing
use Rattle.session.specs.Working.{WorksCommand, FrameIn, FrameStep, FramesStep, FeedIn, FeedStep}
use Rattle.session.specs.declared.fault.Fault.{Fault}
use Rattle.session.specs.declared.port.Found.{Found}
use Rattle.session.specs.declared.port.Found.TheVariants as found

module _ (F G : Type 0) (so : F → G) where
  opened : (f : Found) (old : Play) (asked : Producer) (new : Play) → producing.FoundStep F old asked f new → producing.FoundStep G old asked f new
  opened (found.Topic number) old asked new h = h
  opened found.TooMany old asked new h = h
  opened found.NoMemory old asked new h = h
  opened found.Failed old asked new h = (so h.0, h.1)

  produced : (refusal : Option ServerError) (old : Play) (asked : Producer) (new : Play) → producing.ProducerIn F refusal old asked new → producing.ProducerIn G refusal old asked new
  produced (Some error) old asked new h = h
  produced None old asked new h = record { found = h.found; between = h.between; finds = h.finds; asks = opened h.found (record old { broker = h.between }) asked new h.asks }

  wanted : (f : Found) (old : Play) (asked : Subscribe) (new : Play) → consuming.FoundStep F old asked f new → consuming.FoundStep G old asked f new
  wanted (found.Topic number) old asked new h = h
  wanted found.TooMany old asked new h = h
  wanted found.NoMemory old asked new h = h
  wanted found.Failed old asked new h = (so h.0, h.1)

  subscribed : (refusal : Option ServerError) (old : Play) (asked : Subscribe) (new : Play) → consuming.SubscribeIn F refusal old asked new → consuming.SubscribeIn G refusal old asked new
  subscribed (Some error) old asked new h = h
  subscribed None old asked new h = record { found = h.found; between = h.between; finds = h.finds; asks = wanted h.found (record old { broker = h.between }) asked new h.asks }

  worked : (c : Command) (old : Play) (entry : FrameEntry) (new : Play) → WorksCommand F old c entry new → WorksCommand G old c entry new
  worked (command.Connect c) old entry new h = h
  worked (command.Producer c) old entry new h = produced _ (producing.with_live_producers old) c new h
  worked (command.Send c) old entry new h = h
  worked (command.Subscribe c) old entry new h = subscribed _ (consuming.with_live_consumers old) c new h
  worked (command.Flow c) old entry new h = h
  worked (command.Ack c) old entry new h = h
  worked (command.Unsubscribe c) old entry new h = h
  worked (command.CloseProducer c) old entry new h = h
  worked (command.CloseConsumer c) old entry new h = h
  worked command.Ping old entry new h = h
  worked command.Pong old entry new h = h
  worked (command.RedeliverUnacknowledgedMessages c) old entry new h = h
  worked (command.PartitionedMetadata c) old entry new h = h
  worked (command.Lookup c) old entry new h = h
  worked (command.Other k) old entry new h = h

  framed : (fault : Option Fault) (connected : Bool) (old : Play) (frame : Frame) (new : Play) → FrameIn F fault connected old frame new → FrameIn G fault connected old frame new
  framed None true old frame new h = worked frame.command old frame.entry new h
  framed None false old frame new h = h
  framed (Some why) connected old frame new h = h

  pub frame_caused : (old : Play) (frame : Frame) (new : Play) → FrameStep F old frame new → FrameStep G old frame new
  frame_caused old frame new h = framed old.client.fault old.client.connected old frame new h

  pub frames_caused : (old : Play) (frames : List Frame) (new : Play) → FramesStep F old frames new → FramesStep G old frames new
  frames_caused old [] new h = h
  frames_caused old (frame ∷ frames) new h = (h.0, frame_caused old frame h.0 h.1, frames_caused h.0 frames new h.2)

  pub fed_caused : (fault : Option Fault) (old : Play) (bytes : List ℕ) (result : Result (Unit {0}) Fault) (new : Play) → FeedIn F fault old bytes result new → FeedIn G fault old bytes result new
  fed_caused None old bytes result new h = (
    record {
      frames = h.0.frames;
      read = h.0.read;
      progress = h.0.progress;
      feeds = h.0.feeds;
      worked = h.0.worked;
      works = frames_caused _ h.0.frames h.0.worked h.0.works;
      ends = h.0.ends;
    },
    h.1,
  )
  fed_caused (Some why) old bytes result new h = h

  pub feed_caused : (old : Play) (bytes : List ℕ) (result : Result (Unit {0}) Fault) (new : Play) → FeedStep F old bytes result new → FeedStep G old bytes result new
  feed_caused old bytes result new h = fed_caused old.client.fault old bytes result new h
