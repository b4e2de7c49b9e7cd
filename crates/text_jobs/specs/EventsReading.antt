-- What the reader's value stands for.
use Rattle.text_jobs.specs.declared.events_file.EventsFile.{EventsFile}
use Rattle.text_jobs.specs.EventsForm.{Form}

-- the file without where it lies in memory
abbrev pub form_view : EventsFile → Form
form_view f = record { limits = f.limits; ops = f.ops; bound = f.bound; calls = f.calls.items }
