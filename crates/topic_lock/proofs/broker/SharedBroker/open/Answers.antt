use Rattle.std.proofs.Common.{Err, ap}
use Rattle.topic_lock.proofs.AllOpening.{err_is, no_device_read, devices_as, files_stand}
use Rattle.topic_lock.proofs.broker.SharedBroker.open.Goals as goal

pub returns-in-Err-clause-read : goal.returns-in-Err-clause-read
returns-in-Err-clause-read g c = no_device_read g.S.Shelf.disk _ c.args.devices

pub returns-in-Err-open_parts-clause-cause : goal.returns-in-Err-open_parts-clause-cause
returns-in-Err-open_parts-clause-cause g c = λ is. c.in-Err-open_parts.ensures.cause (ap (λ e. Err e) is)

pub returns-in-Err-open_parts-clause-read : goal.returns-in-Err-open_parts-clause-read
returns-in-Err-open_parts-clause-read g c = devices_as g.S.Shelf.disk _ _ c.args.devices c.open_parts.new.devices (λ is. err_is _ _ is) c.in-Err-open_parts.ensures.read

pub returns-clause-found : goal.returns-clause-found
returns-clause-found g c = λ honest all.
    let e = c.in-Ok-open_parts.ensures in
    let opened = c.in-Ok-open_parts.opened in
    files_stand {store = g.T.TopicStore} g.S.Shelf.disk c.args.devices c.open_parts.new.devices opened.catalog opened.parts.items (e.names honest) e.found e.count e.devices all
