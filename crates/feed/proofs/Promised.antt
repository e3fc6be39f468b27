-- What is promised of drawings and frames, put together.
-- Assumes nothing.
use Rattle.feed.specs.Promise.{Promises}
use Rattle.feed.proofs.Alike.{dot_alike, stroke_alike}
use Rattle.feed.proofs.Exactness.{exactly_value, exactly_only}
use Rattle.feed.proofs.Tightness.{frame_bounds, frame_refused, refused_frame, order_free}

pub promises : Promises
promises =
    record {
      dots = dot_alike;
      strokes = stroke_alike;
      value = exactly_value;
      only = exactly_only;
      framed = frame_bounds;
      refused = frame_refused;
      none_drawn = refused_frame;
      order_free = order_free;
    }
