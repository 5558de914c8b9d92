mod ReplyFronts
mod Rooms
mod ServedTraffic
